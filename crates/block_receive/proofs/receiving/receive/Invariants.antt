use Rattle.std.proofs.Common.{◌≡◌}
use Rattle.rate_match.specs.Sendings.{common}
use Rattle.block_receive.specs.Held.{AreHeldOf}
use Rattle.block_receive.proofs.UnderWay.{IsUnderWay}
use Rattle.block_receive.proofs.receiving.receive.Given as goal

abbrev pub invariant-loop-i : goal.invariant-loop-i
invariant-loop-i g l = record {
  plan : l.progress.buffers.plan ≡ l.task.plan;
  limit : l.progress.buffers.limit ≡ (common l.sends).limit;
  held : AreHeldOf l.task.plan l.progress.held.items;
  under_way : IsUnderWay l.task l.sends l.softs l.i l.rest l.progress;
}
