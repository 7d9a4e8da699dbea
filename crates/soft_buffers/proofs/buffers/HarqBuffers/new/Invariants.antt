use Rattle.std.proofs.Common.{◌≡◌, map}
use Rattle.std.specs.List.{range_with_len}
use Rattle.soft_buffers.proofs.Fresh.{fresh}
use Rattle.soft_buffers.proofs.buffers.HarqBuffers.new.Given as goal

abbrev pub invariant-loop-r : goal.invariant-loop-r
invariant-loop-r l = l.blocks.items ≡ map (fresh l.plan) (range_with_len 0 l.r)
