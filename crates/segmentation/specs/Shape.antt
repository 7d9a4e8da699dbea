-- The code blocks of a plan, whatever their bits are (36.212 5.1.2).
use Rattle.std.specs.Prelude.{◌≡◌, List, length, map}
use Rattle.std.specs.List.{range_with_len}
use Rattle.lte_bits.specs.declared.block.Block.{Block}
use Rattle.model_sender.specs.Segmentation.{Plan, size, fill}

-- there are C blocks, and each has its size and its fillers
pub record AreBlocksOf (plan : Plan) (blocks : List Block) : Type 0 where
  pub sizes : map (λ b. length b.bits) blocks ≡ map (size plan) (range_with_len 0 plan.c)
  pub fillers : map (λ b. b.fill) blocks ≡ map (fill plan) (range_with_len 0 plan.c)
