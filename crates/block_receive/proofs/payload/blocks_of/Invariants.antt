use Rattle.std.proofs.Common.{◌≡◌, map}
use Rattle.block_receive.proofs.payload.blocks_of.Given as goal

abbrev pub invariant-loop-result : goal.invariant-loop-result
invariant-loop-result l = l.blocks.items ≡ map (λ x. x.block) l.yielded
