use Rattle.std.proofs.Common.{◌≡◌, ◌*◌, ◌≤◌, take}
use Rattle.model_receiver.specs.TransportBlocks.{iterations_of}
use Rattle.block_receive.proofs.tries.total_iterations.Given as goal

abbrev pub invariant-loop-result : goal.invariant-loop-result
invariant-loop-result l = record {
  sum : l.total ≡ iterations_of (take l.result-index l.results);
  few : l.total ≤ 16 * l.result-index;
}
