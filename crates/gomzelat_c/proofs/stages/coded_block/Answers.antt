use Rattle.std.specs.Prelude.{IfOk}
use Rattle.std.proofs.lemmas.Result.{IfOk-weaker}
use Rattle.lte_bits.specs.declared.block.Block.{Block}
use Rattle.std.proofs.Common.{◌≡◌, ℕ, length, subst, sym, ap, ◌∙◌}
use Rattle.lte_bits.specs.declared.block.Streams.{Streams}
use Rattle.model_sender.specs.CircularBuffer.{AreStreams}
use Rattle.model_sender.specs.CodedStreams.{streams}
use Rattle.model_sender.specs.Segmentation.{Plan, fill, plan_of, size}
use Rattle.segmentation.specs.Plans.{IsPlan}
use Rattle.segmentation.proofs.OfPlans.{is_plan}
use Rattle.gomzelat_c.proofs.OneBlock.{cut_from, one_block, within_cut}
use Rattle.gomzelat_c.proofs.Rooms.{plan_bytes}
use Rattle.gomzelat_c.proofs.stages.coded_block.Goals as goal

-- the plan of a payload is lawful
lawful : (p : Plan) (bytes : ℕ) → p ≡ plan_of bytes → IsPlan (plan_of bytes) → IsPlan p
lawful p bytes planned is = subst (λ (q : Plan). IsPlan q) (sym planned) is

pub new-requires : goal.new-requires
new-requires c = ap (λ (p : Plan). p.bytes) c.requires.plan ∙ plan_bytes (length c.args.payload.now)

pub code_block-requires : goal.code_block-requires
code_block-requires c = within_cut c.args.payload.now c.new.result c.args.plan.now c.args.r c.new.ensures c.requires.plan c.requires.block

pub encode-requires : goal.encode-requires
encode-requires c =
    let bytes : ℕ = length c.args.payload.now in
    let p : Plan = c.args.plan.now in
    (one_block c.args.payload.now p c.args.r c.in_ok-block.block c.requires.plan (lawful p bytes c.requires.plan (is_plan bytes c.requires.some c.requires.few)) c.requires.block
    (cut_from c.args.payload.now c.new.result c.args.r c.in_ok-block.block c.new.ensures c.in_ok-block.ensures)).inside

pub returns-clause-streams : goal.returns-clause-streams
returns-clause-streams c =
    subst (λ (b : Block). IfOk c.encode.result (λ s. s ≡ streams b))
    (cut_from c.args.payload.now c.new.result c.args.r c.in_ok-block.block c.new.ensures c.in_ok-block.ensures) c.encode.ensures

pub returns-clause-shape : goal.returns-clause-shape
returns-clause-shape c =
    let bytes : ℕ = length c.args.payload.now in
    let p : Plan = c.args.plan.now in
    let r : ℕ = c.args.r in
    let one =
    one_block c.args.payload.now p r c.in_ok-block.block c.requires.plan (lawful p bytes c.requires.plan (is_plan bytes c.requires.some c.requires.few)) c.requires.block
    (cut_from c.args.payload.now c.new.result c.args.r c.in_ok-block.block c.new.ensures c.in_ok-block.ensures) in
    IfOk-weaker c.encode.result (λ s. s ≡ streams c.in_ok-block.block) (λ s. AreStreams (size p r) (fill p r) s)
    (λ s is. subst (λ (t : Streams). AreStreams (size p r) (fill p r) t) (sym is) one.streams_are) c.encode.ensures
