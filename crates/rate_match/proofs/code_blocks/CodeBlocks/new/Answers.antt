use Rattle.std.proofs.Common.{◌≡◌, ℕ, ◌<◌, ◌≤◌, length, Contains, ap, subst, sym, arith}
use Rattle.model_sender.specs.Interleaver.{sizes}
use Rattle.model_sender.specs.Segmentation.{Plan, plan_of}
use Rattle.segmentation.proofs.OfPlans.{is_plan, sound-plan}
use Rattle.rate_match.proofs.BlockNumbers.{block-numbers}
use Rattle.rate_match.proofs.code_blocks.CodeBlocks.new.Goals as goal

-- there is a block
some_block : (p : Plan) (bytes : ℕ) → p ≡ plan_of bytes → 1 ≤ bytes → bytes ≤ 18722 → 0 < p.c
some_block p bytes planned some few = omega (arith, (sound-plan (plan_of bytes) (is_plan bytes some few)).some, ap (λ (q : Plan). q.c) planned)

pub size-requires : goal.size-requires
size-requires c = some_block c.unwrap-plan.result (length c.args.payload.now) (rw c.unwrap-plan.ensures at c.plan.ensures.numbers) c.requires.some c.requires.few

pub new-requires : goal.new-requires
new-requires c =
    let some = some_block c.unwrap-plan.result (length c.args.payload.now) (rw c.unwrap-plan.ensures at c.plan.ensures.numbers) c.requires.some c.requires.few in
    subst (λ (k : ℕ). Contains sizes k) (sym c.size.ensures.value) (block-numbers c.unwrap-plan.result 0 c.size.ensures.lawful some).inside
