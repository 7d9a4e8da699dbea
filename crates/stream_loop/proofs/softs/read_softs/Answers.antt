use Rattle.std.proofs.Common.{◌≡◌, pos, length, sym, ◌∙◌, arith}
use Rattle.std.proofs.lemmas.List.{ext_get_or, length-map}
use Rattle.stream_loop.specs.SoftBytes.{soft_of}
use Rattle.stream_loop.proofs.softs.read_softs.Goals as goal

pub returns : goal.returns
returns c =
    let long : length c.loop-i.softs ≡ length c.args.bytes.now = omega (arith, c.loop-i.auto.softs, c.requires) in
    ext_get_or (pos 0) _ _ (long ∙ sym (length-map c.args.bytes.now soft_of))
    (λ k lt. c.loop-i.invariant k (omega (arith, c.loop-i-test.false, c.loop-i.auto.i-end, c.loop-i.auto.softs, lt)))
