use Rattle.std.proofs.Common.{◌≡◌}
use Rattle.phase_board.specs.Slots.{TakingOut}
use Rattle.phase_board.proofs.board.Board.take_out.Given as goal

abbrev pub invariant-loop-i : goal.invariant-loop-i
invariant-loop-i g l =
    let job = g.P.Piece.job l.self.table.shared.key.value in
    TakingOut (g.P.Piece.windows job) (g.P.Piece.done job l.half) l.i l.seat.me.1 l.pieces
    × (l.seat.table_id ≡ l.initial.seat.table_id) × (l.seat.id ≡ l.initial.seat.id) × (l.seat.me.0 ≡ l.initial.seat.me.0)
