use Rattle.std.proofs.Common.{◌≡◌, ℕ, ◌+◌, ◌-◌, ◌*◌, ◌≤◌, sym, ap, ◌∙◌, subst, arith}
use Rattle.model_sender.specs.Segmentation.{Plan, check_length}
use Rattle.model_sender.specs.CodeBlocks.{before}
use Rattle.segmentation.specs.Plans.{IsPlan}
use Rattle.segmentation.proofs.BlockStarts.{before-few, before-larger, before-smaller, holds-own}
use Rattle.segmentation.proofs.transport.before.Goals as goal

-- the numbers that are read are the plan's
record AreOf (p : Plan) (own k_minus k_plus c_minus : ℕ) : Type 0 where
  lawful : IsPlan p
  own_is : own ≡ check_length p.c
  smaller : k_minus ≡ p.k_minus
  larger : k_plus ≡ p.k_plus
  count : c_minus ≡ p.c_minus

are_of : (p q : Plan) (own : ℕ) → q ≡ p → IsPlan q → own ≡ check_length q.c → AreOf p own q.k_minus q.k_plus q.c_minus
are_of p q own seen is own_is = record {
  lawful = subst IsPlan seen is;
  own_is = own_is ∙ ap (λ (x : Plan). check_length x.c) seen;
  smaller = ap (λ (x : Plan). x.k_minus) seen;
  larger = ap (λ (x : Plan). x.k_plus) seen;
  count = ap (λ (x : Plan). x.c_minus) seen;
}

first : (p : Plan) (own k j m r : ℕ) → AreOf p own k j m → r ≤ m → r * (k - own) ≡ before p r
first p own k j m r are le = (λ i. r * (are.smaller i - are.own_is i)) ∙ sym (before-smaller p r (omega (arith, le, are.count)))

both : (p : Plan) (own k j m r : ℕ) → AreOf p own k j m → m ≤ r → m * (k - own) + (r - m) * (j - own) ≡ before p r
both p own k j m r are le =
    (λ i. are.count i * (are.smaller i - are.own_is i) + (r - are.count i) * (are.larger i - are.own_is i))
    ∙ sym (before-larger p (r - p.c_minus))
    ∙ ap (before p) (let e : p.c_minus + (r - p.c_minus) ≡ r = omega (arith, le, are.count) in e)

pub overflow_sub-result : goal.overflow_sub-result
overflow_sub-result c =
    let are = are_of c.args.plan.now _ c.check_length-own.result c.plan.view_is c.plan.invariant c.check_length-own.ensures in
    omega (arith, are.own_is, are.smaller, (holds-own c.args.plan.now are.lawful).smaller)

pub overflow_mul-result : goal.overflow_mul-result
overflow_mul-result c =
    let are = are_of c.args.plan.now _ c.check_length-own.result c.plan.view_is c.plan.invariant c.check_length-own.ensures in
    omega (arith, first c.args.plan.now c.check_length-own.result c.plan.inside.k_minus c.plan.inside.k_plus c.plan.inside.c_minus c.args.r are c.if-r-plan.true, before-few c.args.plan.now c.args.r are.lawful c.requires)

pub overflow_sub-result-else-r-plan : goal.overflow_sub-result-else-r-plan
overflow_sub-result-else-r-plan c =
    let are = are_of c.args.plan.now _ c.check_length-own.result c.plan.view_is c.plan.invariant c.check_length-own.ensures in
    omega (arith, are.own_is, are.smaller, (holds-own c.args.plan.now are.lawful).smaller)

pub overflow_mul-result-else-r-plan : goal.overflow_mul-result-else-r-plan
overflow_mul-result-else-r-plan c =
    let are = are_of c.args.plan.now _ c.check_length-own.result c.plan.view_is c.plan.invariant c.check_length-own.ensures in
    omega (arith, both c.args.plan.now c.check_length-own.result c.plan.inside.k_minus c.plan.inside.k_plus c.plan.inside.c_minus c.args.r are (omega (arith, c.if-r-plan.false)), before-few c.args.plan.now c.args.r are.lawful c.requires)

pub overflow_sub-result-else-r-plan-3 : goal.overflow_sub-result-else-r-plan-3
overflow_sub-result-else-r-plan-3 c =
    let are = are_of c.args.plan.now _ c.check_length-own.result c.plan.view_is c.plan.invariant c.check_length-own.ensures in
    omega (arith, are.own_is, are.larger, (holds-own c.args.plan.now are.lawful).larger)

pub overflow_mul-result-else-r-plan-2 : goal.overflow_mul-result-else-r-plan-2
overflow_mul-result-else-r-plan-2 c =
    let are = are_of c.args.plan.now _ c.check_length-own.result c.plan.view_is c.plan.invariant c.check_length-own.ensures in
    omega (arith, both c.args.plan.now c.check_length-own.result c.plan.inside.k_minus c.plan.inside.k_plus c.plan.inside.c_minus c.args.r are (omega (arith, c.if-r-plan.false)), before-few c.args.plan.now c.args.r are.lawful c.requires)

pub overflow_add-result : goal.overflow_add-result
overflow_add-result c =
    let are = are_of c.args.plan.now _ c.check_length-own.result c.plan.view_is c.plan.invariant c.check_length-own.ensures in
    omega (arith, both c.args.plan.now c.check_length-own.result c.plan.inside.k_minus c.plan.inside.k_plus c.plan.inside.c_minus c.args.r are (omega (arith, c.if-r-plan.false)), before-few c.args.plan.now c.args.r are.lawful c.requires)

pub returns-then-r-plan : goal.returns-then-r-plan
returns-then-r-plan c =
    let are = are_of c.args.plan.now _ c.check_length-own.result c.plan.view_is c.plan.invariant c.check_length-own.ensures in
    first c.args.plan.now c.check_length-own.result c.plan.inside.k_minus c.plan.inside.k_plus c.plan.inside.c_minus c.args.r are c.if-r-plan.true

pub returns-else-r-plan : goal.returns-else-r-plan
returns-else-r-plan c =
    let are = are_of c.args.plan.now _ c.check_length-own.result c.plan.view_is c.plan.invariant c.check_length-own.ensures in
    both c.args.plan.now c.check_length-own.result c.plan.inside.k_minus c.plan.inside.k_plus c.plan.inside.c_minus c.args.r are (omega (arith, c.if-r-plan.false))
