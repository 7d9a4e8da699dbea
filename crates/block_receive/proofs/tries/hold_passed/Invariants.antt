use Rattle.std.proofs.Common.{◌≡◌, map}
use Rattle.model_receiver.specs.TransportBlocks.{if_passed}
use Rattle.block_receive.proofs.tries.hold_passed.Given as goal

abbrev pub invariant-loop-result : goal.invariant-loop-result
invariant-loop-result l = l.held.items ≡ map if_passed l.yielded
