use denote.Param.Send.{sendable}
use Rattle.std.proofs.Crossing.{crosses}
use Rattle.phase_board.proofs.Crossing.{Idle-send, Board-sync}
use Rattle.window_workers.proofs.Crossing.{WindowPiece-send, WindowCommon-send}
use Rattle.test_threads.proofs.workers.two_threads_serve_a_board.Goals as goal

pub join-one-requires-send-F : goal.join-one-requires-send-F
join-one-requires-send-F g c κs within = search (sendable, crosses, WindowPiece-send, WindowCommon-send, Idle-send, Board-sync) depth 20

pub join-one-requires-send-A : goal.join-one-requires-send-A
join-one-requires-send-A g c κs within = search (sendable, crosses, WindowPiece-send, WindowCommon-send, Idle-send) depth 20
