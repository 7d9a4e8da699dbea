use Rattle.std.proofs.Common.{◌≡◌, List, drop, map}
use Rattle.std.specs.List.{range_with_len}
use Rattle.std.specs.Vec.Iter.{into_iter_items}
use Rattle.model_receiver.specs.SoftCells.{Reception}
use Rattle.model_receiver.specs.TransportBlocks.{tried_block}
use Rattle.soft_buffers.specs.Buffers.{Hold}
use Rattle.block_receive.specs.Tries.{tried_block_from}
use Rattle.block_receive.proofs.tries.try_blocks.Given as goal

abbrev pub invariant-loop-r : goal.invariant-loop-r
invariant-loop-r g l = record {
  left : into_iter_items l.held ≡ drop l.r l.fn.held.items;
  from : l.results.items ≡ map (tried_block_from l.task.plan l.task.limits l.buffers.cells l.fn.held.items) (range_with_len 0 l.r);
  tried : (xs : List Reception) → Hold l.buffers xs → l.results.items ≡ map (tried_block l.task.plan l.task.limits xs l.fn.held.items) (range_with_len 0 l.r);
}
