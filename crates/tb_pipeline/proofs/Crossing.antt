-- Which relays, hands and completions may go to another thread.
use denote.RattleType.{RattleType}
use denote.Param.Send.{IsSend, IsSync, sendable}
use Rattle.std.proofs.Crossing.{crosses}
use Rattle.atomic_table.proofs.shared.Seat.TheSendSync.{the_send as seat}
use Rattle.atomic_table.proofs.shared.Shared.TheSendSync.{the_sync as shared}
use Rattle.atomic_table.proofs.send_lease.SendLease.TheSendSync.{the_sync as lease}
use Rattle.tb_pipeline.specs.contracts.known.Item as Item
use Rattle.tb_pipeline.specs.contracts.hand.Hand as Hand
use Rattle.tb_pipeline.specs.contracts.hand.Relay as Relay
use Rattle.tb_pipeline.specs.declared.job.Job.{Ghosts}
use Rattle.tb_pipeline.specs.contracts.completion.Completion as Completion
use Rattle.tb_pipeline.specs.contracts.completion.Answers as Answers
use Rattle.tb_pipeline.specs.contracts.completion.ResultSender as ResultSender

pub Item-send : IsSend Item.the_row
Item-send = search (sendable, crosses) depth 20

pub Hand-send : IsSend Hand.the_row
Hand-send = search (sendable, crosses, seat, Item-send) depth 20

pub Relay-sync : IsSync Relay.the_row
Relay-sync = search (sendable, crosses, shared, lease, Item-send) depth 20

module _ (J D : RattleType) (d : IsSend D) where
  pub Completion-send : IsSend (Completion.the_row J D)
  Completion-send = search (sendable, crosses) depth 20

  pub ResultSender-send : IsSend (ResultSender.the_row J D)
  ResultSender-send = search (sendable, crosses, seat, Completion-send) depth 20

  pub Answers-sync : (G : Ghosts J.Denot D.Denot) → IsSync (Answers.the_row J D G)
  Answers-sync G = search (sendable, crosses, shared, lease, Completion-send) depth 20
