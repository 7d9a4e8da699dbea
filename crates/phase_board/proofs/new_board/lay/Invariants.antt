use Rattle.std.proofs.Common.{◌≡◌, ◌+◌, ◌≤◌, length}
use Rattle.std.specs.Prelude.{vec_capacity}
use Rattle.phase_board.proofs.Laid.{all_of, holding}
use Rattle.phase_board.proofs.new_board.lay.Given as goal

abbrev pub invariant-loop-i : goal.invariant-loop-i
invariant-loop-i g l =
    (all_of _ g.row.P-Common.Denot l.pieces.items l.slots.items ≡ holding _ _ l.fn.pieces.items) × (length l.pieces.items + l.i ≡ length l.fn.pieces.items) × (length l.slots.items ≡ l.i)
    × (length l.fn.pieces.items + 1 ≤ vec_capacity l.slots) × (length l.fn.pieces.items ≤ vec_capacity l.pieces)
