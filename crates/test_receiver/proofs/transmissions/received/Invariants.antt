use Rattle.std.proofs.Common.{◌≡◌, ◌<◌}
use Rattle.rate_match.specs.Matching.{limit_of}
use Rattle.test_receiver.proofs.transmissions.received.Given as goal

abbrev pub invariant-loop-sent : goal.invariant-loop-sent
invariant-loop-sent g l = record {
  some : 0 < l.buffers.plan.c;
  limit : l.buffers.limit ≡ limit_of l.buffer;
}
