use Rattle.std.proofs.Common.{◌≡◌, ◌≤◌, ℕ, ◌+◌, ◌*◌, sym, ap, ◌∙◌, arith}
use Rattle.model_sender.specs.Segmentation.{count_of, check_length, larger_size, smaller_size, plan_of}
use Rattle.model_sender.proofs.PlanLaws.{plan-bytes, plan-sound}
use Rattle.segmentation.proofs.Computed.{AreThePlan, are_the_plan, count_at, plan-small, count-is, carried-is, larger-is, smaller-is, smaller_count-is}
use Rattle.segmentation.proofs.OfPlans.{same_plan}
use Rattle.segmentation.proofs.planning.planned.Goals as goal

pub smaller_size-k_minus-requires : goal.smaller_size-k_minus-requires
smaller_size-k_minus-requires c more =
    let bytes : ℕ = c.args.bytes in
    let small = plan-small bytes c.requires.some c.requires.few in
    let sound = plan-sound bytes c.requires.some c.requires.few in
    let blocks = count-is bytes c.block_count-c.result c.block_count-c.ensures in
    let bits = carried-is bytes c.block_count-c.result c.check_length.result c.block_count-c.ensures c.check_length.ensures in
    let larger = larger-is bytes c.block_count-c.result _ c.larger_size-k_plus.result c.block_count-c.ensures bits c.larger_size-k_plus.ensures in
    omega (arith, larger, small.several (omega (arith, more, blocks, sound.some)))

pub smaller_count-c_minus-requires : goal.smaller_count-c_minus-requires
smaller_count-c_minus-requires c =
    let bytes : ℕ = c.args.bytes in
    let small = plan-small bytes c.requires.some c.requires.few in
    let sound = plan-sound bytes c.requires.some c.requires.few in
    let blocks = count-is bytes c.block_count-c.result c.block_count-c.ensures in
    let bits = carried-is bytes c.block_count-c.result c.check_length.result c.block_count-c.ensures c.check_length.ensures in
    let larger = larger-is bytes c.block_count-c.result _ c.larger_size-k_plus.result c.block_count-c.ensures bits c.larger_size-k_plus.ensures in
    let smaller = smaller-is bytes c.block_count-c.result c.larger_size-k_plus.result c.smaller_size-k_minus.result c.block_count-c.ensures larger c.smaller_size-k_minus.ensures in
    let product : c.block_count-c.result * c.larger_size-k_plus.result ≡ (plan_of bytes).c * (plan_of bytes).k_plus =
    ap (λ (x : ℕ). x * c.larger_size-k_plus.result) blocks ∙ ap (λ (x : ℕ). (plan_of bytes).c * x) larger in
    record {
      few = omega (arith, blocks, sound.few);
      size = omega (arith, larger, small.size);
      apart = omega (arith, larger, smaller, small.apart);
      room = omega (arith, bits, product, small.enough);
    }

-- the numbers from those of the steps
from_steps : (bytes c l k j m : ℕ) → 1 ≤ bytes → bytes ≤ 18722 → c ≡ count_of (8 * bytes + 24) → l ≡ check_length c
    → k ≡ larger_size c (8 * bytes + 24 + c * l) → j ≡ smaller_size c k → m ≡ count_at c (8 * bytes + 24 + c * l) k j
    → AreThePlan bytes (8 * bytes + 24 + c * l) c k j m (plan_of bytes)
from_steps bytes c l k j m some few blocks own larger smaller count =
    let bits = carried-is bytes c l blocks own in
    let first = larger-is bytes c (8 * bytes + 24 + c * l) k blocks bits larger in
    let second = smaller-is bytes c k j blocks first smaller in
    are_the_plan bytes (8 * bytes + 24 + c * l) c k j m some few bits (count-is bytes c blocks) first second (smaller_count-is bytes c (8 * bytes + 24 + c * l) k j m blocks bits first second count)

the_plan : (c : goal.After-smaller_count-c_minus) → AreThePlan c.args.bytes
    (8 * c.args.bytes + 24 + c.block_count-c.result * c.check_length.result) c.block_count-c.result
    c.larger_size-k_plus.result c.smaller_size-k_minus.result c.smaller_count-c_minus.result (plan_of c.args.bytes)
the_plan c =
    from_steps c.args.bytes c.block_count-c.result c.check_length.result c.larger_size-k_plus.result c.smaller_size-k_minus.result c.smaller_count-c_minus.result
    c.requires.some c.requires.few c.block_count-c.ensures c.check_length.ensures c.larger_size-k_plus.ensures c.smaller_size-k_minus.ensures c.smaller_count-c_minus.ensures

pub overflow_sub-c_plus : goal.overflow_sub-c_plus
overflow_sub-c_plus c =
    let plan = the_plan c in
    let sound = plan-sound c.args.bytes c.requires.some c.requires.few in
    omega (arith, plan.blocks, plan.smaller, sound.smaller_few)

pub overflow_mul-result : goal.overflow_mul-result
overflow_mul-result c = let plan = the_plan c in omega (arith, plan.in_larger)

pub overflow_mul-result-2 : goal.overflow_mul-result-2
overflow_mul-result-2 c = let plan = the_plan c in omega (arith, plan.in_smaller)

pub overflow_add-result : goal.overflow_add-result
overflow_add-result c = let plan = the_plan c in omega (arith, plan.in_larger, plan.in_smaller)

pub overflow_sub-result : goal.overflow_sub-result
overflow_sub-result c = (the_plan c).room

pub invariant_of-result : goal.invariant_of-result
invariant_of-result c =
    let plan = the_plan c in
    record {
      some = c.requires.some;
      few = c.requires.few;
      planned = same_plan _ (plan_of c.args.bytes) (sym (plan-bytes c.args.bytes)) plan.blocks plan.larger_size plan.smaller_size plan.larger plan.smaller plan.fillers;
    }

pub returns-clause-numbers : goal.returns-clause-numbers
returns-clause-numbers c =
    let plan = the_plan c in
    same_plan _ (plan_of c.args.bytes) (sym (plan-bytes c.args.bytes)) plan.blocks plan.larger_size plan.smaller_size plan.larger plan.smaller plan.fillers
