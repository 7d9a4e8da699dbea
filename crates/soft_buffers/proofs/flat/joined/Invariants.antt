use Rattle.std.proofs.Common.{◌≡◌, flat_map, take}
use Rattle.soft_buffers.proofs.flat.joined.Given as goal

abbrev pub invariant-loop-block : goal.invariant-loop-block
invariant-loop-block l = l.cells.items ≡ flat_map (λ block. block) (take l.block-index l.blocks)
