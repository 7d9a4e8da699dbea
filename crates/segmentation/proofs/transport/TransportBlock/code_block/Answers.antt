use Rattle.std.proofs.Common.{◌≡◌, ◌≤◌, length, ap, ◌∙◌, subst, arith}
use Rattle.lte_bits.specs.declared.block.Block.{Block}
use Rattle.model_sender.specs.Segmentation.{Plan, fill, plan_of}
use Rattle.model_sender.specs.CodeBlocks.{checked}
use Rattle.model_sender.proofs.PlanLaws.{plan-bytes}
use Rattle.segmentation.specs.Plans.{IsPlan}
use Rattle.segmentation.proofs.BlockSizes.{block-size}
use Rattle.segmentation.proofs.CutBlocks.{length-piece}
use Rattle.segmentation.proofs.transport.TransportBlock.code_block.Goals as goal

pub checked-requires : goal.checked-requires
checked-requires c =
    let view = c.args.self.now in
    let is : IsPlan (plan_of (length view)) = subst IsPlan c.plan-plan.ensures.value c.plan-plan.ensures.lawful in
    let bytes = plan-bytes (length view) in
    let some : 1 ≤ length view = omega (arith, is.some, bytes) in
    let few : length view ≤ 18722 = omega (arith, is.few, bytes) in
    omega (arith, ap length c.in_ok-share.ensures, length-piece view c.args.r some few c.requires, (block-size (plan_of (length view)) c.args.r is).most)

pub returns : goal.returns
returns c =
    let planned = c.plan-plan.ensures.value in
    let count : c.plan.inside.c ≡ (plan_of (length c.args.self.now)).c = ap (λ (x : Plan). x.c) (c.plan.view_is ∙ planned) in
    let fillers = c.fill.ensures ∙ ap (λ (x : Plan). fill x c.args.r) planned in
    let bits = c.in_ok-checked.ensures ∙ (λ i. checked (count i) (c.in_ok-share.ensures i)) in
    λ i. let made : Block = record { fill = fillers i; bits = bits i } in made
