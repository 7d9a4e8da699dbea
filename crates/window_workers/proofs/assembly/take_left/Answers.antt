use Rattle.std.proofs.Common.{◌≡◌, length, sym, ◌∙◌, arith}
use Rattle.std.proofs.lemmas.List.{ext_get_or, length-map}
use Rattle.model_receiver.specs.HalfIteration.{none_left}
use Rattle.window_workers.specs.Pieces.{left_of_piece}
use Rattle.window_workers.proofs.assembly.take_left.Goals as goal

pub returns : goal.returns
returns c =
    let long : length c.loop-t.left ≡ length c.args.pieces.now = omega (arith, c.loop-t.auto.left, c.requires) in
    ext_get_or none_left _ _ (long ∙ sym (length-map c.args.pieces.now left_of_piece))
    (λ k lt. c.loop-t.invariant k (omega (arith, c.loop-t-test.false, c.loop-t.auto.t-end, c.loop-t.auto.left, lt)))
