use Rattle.std.proofs.Common.{◌≡◌, take}
use Rattle.model_sender.specs.CodeBlocks.{whole}
use Rattle.segmentation.proofs.payloads.whole.Given as goal

abbrev pub invariant-loop-block : goal.invariant-loop-block
invariant-loop-block l = l.whole.items ≡ whole l.plan (take l.block-index l.blocks)
