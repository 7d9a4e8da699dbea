use Rattle.std.proofs.Common.{length, ap, ◌∙◌, subst, arith}
use Rattle.lte_bits.specs.declared.block.Block.{Block}
use Rattle.model_sender.specs.Segmentation.{Plan, check_length}
use Rattle.segmentation.specs.Plans.{IsPlan}
use Rattle.segmentation.proofs.WholeBits.{shape-at, fillers-fit}
use Rattle.segmentation.proofs.payloads.whole.Goals as goal

pub carried-requires : goal.carried-requires
carried-requires c =
    let plan : Plan = c.args.plan.now in
    let at = shape-at plan c.args.blocks.now c.loop-block.block-index c.block-item.result c.requires c.loop-block-test.true in
    let own = c.check_length-own.ensures ∙ ap (λ (p : Plan). check_length p.c) c.plan.view_is in
    let size = ap (λ (b : Block). length b.bits) c.block-item.is ∙ at.size in
    let fillers = ap (λ (b : Block). b.fill) c.block-item.is ∙ at.fillers in
    omega (arith, size, fillers, own, fillers-fit plan c.loop-block.block-index (subst IsPlan c.plan.view_is c.plan.invariant))
