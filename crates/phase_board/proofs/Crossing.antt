-- Which seats and boards may go to another thread.
use denote.RattleType.{RattleType}
use denote.Param.Send.{IsSend, IsSync, sendable}
use Rattle.std.proofs.Crossing.{crosses}
use Rattle.atomic_table.proofs.shared.Seat.TheSendSync.{the_send as seat}
use Rattle.atomic_table.proofs.shared.Shared.TheSendSync.{the_sync as shared}
use Rattle.atomic_table.proofs.send_lease.SendLease.TheSendSync.{the_sync as lease}
use Rattle.phase_board.specs.declared.piece.Piece.{Ghosts}
use Rattle.phase_board.specs.contracts.view.Slot as Slot
use Rattle.phase_board.specs.contracts.seats.Idle as Idle
use Rattle.phase_board.specs.contracts.board.Board as Board

module _ (P C J : RattleType) (G : Ghosts P.Denot C.Denot J.Denot) (s : IsSend P) (c : IsSend C) where
  Slot-send : IsSend (Slot.the_row P C)
  Slot-send = search (sendable, crosses) depth 20

  pub Idle-send : IsSend (Idle.the_row P C J G)
  Idle-send = search (sendable, crosses, seat) depth 20

  pub Board-sync : IsSync (Board.the_row P C J G)
  Board-sync = search (sendable, crosses, shared, lease, Slot-send) depth 20
