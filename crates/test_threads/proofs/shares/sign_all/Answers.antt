use Rattle.std.proofs.Common.{◌≡◌, length, sym, ap, ◌∙◌, rules}
use Rattle.cell_shares.specs.Shares.{share_label}
use Rattle.cell_shares.proofs.Labels.{labels-same}
use Rattle.test_threads.proofs.shares.sign_all.Goals as goal

pub returns : goal.returns
returns g c =
    let long : length c.for_each_mut.new.s ≡ length c.args.shares.now = search rules in
    labels-same c.args.shares.now c.for_each_mut.new.s long (λ i d h. let k = (c.for_each_mut.ensures i d h).1 in
    let kept : share_label k.after_call.now ≡ share_label k.argument.now = search rules in ap share_label (sym k.left) ∙ (kept ∙ ap share_label k.argument_is))
