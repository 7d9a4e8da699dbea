use Rattle.std.proofs.Common.{length, ◌∙◌}
use Rattle.cell_shares.specs.Shares.{share_number, share_order, share_values}
use Rattle.window_workers.proofs.SharePlaces.{place-at}
use Rattle.window_workers.proofs.strip.ShareStripStrip.cell.Goals as goal

pub get_at-requires-clause-place : goal.get_at-requires-clause-place
get_at-requires-clause-place c =
    let s = c.args.self.now in
    c.from-place.ensures ∙ place-at (share_order s.share) (length (share_values s.share)) (share_number s.share) c.args.j s.places.now s.in_place c.requires
