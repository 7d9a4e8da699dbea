use Rattle.std.proofs.Common.{◌≡◌, ◌≤◌, length, reverse, drop}
use Rattle.std.specs.Prelude.{vec_capacity}
use Rattle.phase_board.proofs.PutsBack.{filled_to}
use Rattle.phase_board.proofs.board.Board.put_back.Given as goal

abbrev pub invariant-loop-i : goal.invariant-loop-i
invariant-loop-i g l =
    (l.seat.me.1 ≡ filled_to _ _ l.fn.pieces.items l.i) × (l.pieces.items ≡ reverse (drop l.i l.fn.pieces.items)) × (length l.fn.pieces.items ≤ vec_capacity l.pieces)
    × (l.seat.table_id ≡ l.fn.seat.table_id) × (l.seat.id ≡ l.fn.seat.id) × (l.seat.me.0 ≡ l.fn.seat.me.0)
