use Rattle.std.proofs.Common.{◌≡◌, map}
use Rattle.std.specs.List.{range_with_len}
use Rattle.model_sender.specs.CodeBlocks.{block}
use Rattle.segmentation.proofs.cutting.cut.Given as goal

abbrev pub invariant-loop-r : goal.invariant-loop-r
invariant-loop-r l = l.code_blocks.items ≡ map (block l.plan l.fn.payload) (range_with_len 0 l.r)
