use Rattle.std.proofs.Common.{length, ap, ◌∙◌}
use Rattle.cell_shares.specs.Shares.{share_number, share_order, share_values}
use Rattle.window_workers.proofs.SharePlaces.{long-places}
use Rattle.window_workers.proofs.window.run_share.Goals as goal

pub invariant_of-strip-clause-in_place : goal.invariant_of-strip-clause-in_place
invariant_of-strip-clause-in_place c = c.as_slice-3.ensures.value ∙ c.requires.places

pub invariant_of-strip-clause-places_long : goal.invariant_of-strip-clause-places_long
invariant_of-strip-clause-places_long c =
    let s = c.args.share in
    ap length c.as_slice-3.ensures.value ∙ long-places (share_order s) (length (share_values s)) (share_number s) c.args.view.now.places.items c.requires.places
