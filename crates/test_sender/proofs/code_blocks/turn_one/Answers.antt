use Rattle.std.proofs.Common.{length, ◌∙◌}
use Rattle.std.proofs.Math.Seq.{map-set_same}
use Rattle.lte_bits.specs.declared.block.Block.{Block}
use Rattle.test_sender.proofs.code_blocks.turn_one.Goals as goal

pub returns-then-place-as_slice : goal.returns-then-place-as_slice
returns-then-place-as_slice c p shape = record {
  sizes = map-set_same (λ (b : Block). length b.bits) c.args.blocks.now c.args.r c.turn.new.block _ c.turn.ensures.size ∙ shape.sizes;
  fillers = map-set_same (λ (b : Block). b.fill) c.args.blocks.now c.args.r c.turn.new.block _ c.turn.ensures.fill ∙ shape.fillers;
}
