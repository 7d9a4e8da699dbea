use Rattle.std.proofs.Common.{◌≡◌, ◌<◌, get_or, map, ℕ}
use Rattle.model_receiver.specs.HalfIteration.{none_left}
use Rattle.window_workers.specs.Pieces.{left_of_piece}
use Rattle.window_workers.proofs.assembly.take_left.Given as goal

abbrev pub invariant-loop-t : goal.invariant-loop-t
invariant-loop-t l = (k : ℕ) → k < l.t → get_or l.left k none_left ≡ get_or (map left_of_piece l.pieces) k none_left
