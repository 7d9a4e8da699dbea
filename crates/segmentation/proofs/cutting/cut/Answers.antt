use Rattle.std.proofs.Common.{◌≡◌, ℕ, List, length, map, sym, ap, ◌∙◌, subst, arith}
use Rattle.std.specs.List.{range_with_len}
use Rattle.lte_bits.specs.declared.block.Block.{Block}
use Rattle.lte_bits.proofs.Pushes.{pushed_next}
use Rattle.model_sender.specs.Segmentation.{Plan, plan_of}
use Rattle.model_sender.specs.CodeBlocks.{block, blocks}
use Rattle.segmentation.specs.Plans.{IsPlan}
use Rattle.segmentation.specs.Shape.{AreBlocksOf}
use Rattle.segmentation.proofs.CutBlocks.{blocks-shape}
use Rattle.segmentation.proofs.OfPlans.{of_length}
use Rattle.segmentation.proofs.cutting.cut.Goals as goal

-- the plan is the payload's
planned : (p : Plan) (payload view : List ℕ) → IsPlan p → p.bytes ≡ length payload → view ≡ payload → p ≡ plan_of (length view)
planned p payload view is same seen = is.planned ∙ ap plan_of (same ∙ ap length (sym seen))

pub code_block-requires : goal.code_block-requires
code_block-requires c =
    let is = planned c.args.plan.now c.args.payload.now c.new-transport.result (subst IsPlan c.plan.view_is c.plan.invariant) c.requires c.new-transport.ensures in
    omega (arith, c.loop-r-test.true, ap (λ (p : Plan). p.c) c.plan.view_is, ap (λ (p : Plan). p.c) is)

pub loop-r-preserved : goal.loop-r-preserved
loop-r-preserved c =
    let p : Plan = c.args.plan.now in
    let seen = c.new-transport.ensures in
    let is = planned p c.args.payload.now c.new-transport.result (subst IsPlan c.plan.view_is c.plan.invariant) c.requires seen in
    pushed_next (block p c.args.payload.now) c.loop-r.code_blocks.items c.push.new.self.items c.loop-r.r c.in_ok-code_block.field-0 c.loop-r.invariant c.in_ok-push.ensures.items
    (c.in_ok-code_block.ensures ∙ ap (λ (q : Plan). block q c.new-transport.result c.loop-r.r) (sym is) ∙ ap (λ (xs : List ℕ). block p xs c.loop-r.r) seen)

-- all blocks of the plan have its shape
all_made : (p : Plan) (r : ℕ) (payload : List ℕ) (bs : List Block) → IsPlan p → p.bytes ≡ length payload → r ≡ p.c → bs ≡ map (block p payload) (range_with_len 0 r) → AreBlocksOf p bs
all_made p r payload bs is same all made =
    let shape = of_length (λ q. AreBlocksOf q (blocks q payload)) p (length payload) is same (blocks-shape payload) in
    subst (λ (xs : List Block). AreBlocksOf p xs) (sym (made ∙ ap (λ (n : ℕ). map (block p payload) (range_with_len 0 n)) all)) shape

pub returns-clause-shape : goal.returns-clause-shape
returns-clause-shape c =
    let count = ap (λ (p : Plan). p.c) c.plan.view_is in
    all_made c.args.plan.now c.loop-r.r c.args.payload.now c.from_vec.result (subst IsPlan c.plan.view_is c.plan.invariant) c.requires
    (omega (arith, c.loop-r-test.false, count)) (c.from_vec.ensures ∙ c.loop-r.invariant)
