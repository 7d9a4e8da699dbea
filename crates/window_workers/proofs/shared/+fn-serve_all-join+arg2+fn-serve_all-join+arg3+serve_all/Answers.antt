use Rattle.std.proofs.Crossing.{crosses}
use denote.Param.Send.{sendable}
use Rattle.phase_board.proofs.Crossing.{Idle-send, Board-sync}
use Rattle.window_workers.proofs.Crossing.{WindowPiece-send, WindowCommon-send}
use Rattle.window_workers.proofs.shared.+fn-serve_all-join+arg2+fn-serve_all-join+arg3+serve_all.Goals as goal

pub join-one-requires-send-F : goal.join-one-requires-send-F
join-one-requires-send-F g t c κs within = search (sendable, crosses, WindowPiece-send, WindowCommon-send, Idle-send, Board-sync) depth 20

pub join-one-requires-send-A : goal.join-one-requires-send-A
join-one-requires-send-A g t c κs within = search (sendable, crosses, WindowPiece-send, WindowCommon-send, Idle-send) depth 20
