use Rattle.std.proofs.Common.{◌≡◌, ℕ, ◌+◌, ◌<◌, ◌≤◌, ap, arith}
use Rattle.model_sender.specs.Segmentation.{Plan, size}
use Rattle.segmentation.specs.Plans.{IsPlan}
use Rattle.rate_match.proofs.BlockNumbers.{block-numbers}
use Rattle.soft_buffers.specs.Parts.{before}
use Rattle.soft_buffers.proofs.PartLaws.{before-more}
use Rattle.gomzelat_c.proofs.state.bit_count.Goals as goal

few : (p : Plan) (r : ℕ) → IsPlan p → r < p.c → p.c ≤ 25
few p r is below = (block-numbers p r is below).few

most : (p : Plan) (r k : ℕ) → IsPlan p → r < p.c → k ≡ size p r → k ≤ 6144
most p r k is below same = omega (arith, same, (block-numbers p r is below).most)

pub overflow_add-count : goal.overflow_add-count
overflow_add-count c =
    let p : Plan = c.args.plan.now in
    let below : c.loop-r.r < p.c = omega (arith, c.loop-r-test.true, ap (λ (q : Plan). q.c) c.plan.view_is) in
    let all = few p c.loop-r.r c.size-count.ensures.lawful below in
    let here = most p c.loop-r.r c.size-count.result c.size-count.ensures.lawful below c.size-count.ensures.value in
    omega (arith, below, all, here, c.loop-r.invariant.few)

pub loop-r-preserved : goal.loop-r-preserved
loop-r-preserved c =
    let p : Plan = c.args.plan.now in
    let below : c.loop-r.r < p.c = omega (arith, c.loop-r-test.true, ap (λ (q : Plan). q.c) c.plan.view_is) in
    let here = most p c.loop-r.r c.size-count.result c.size-count.ensures.lawful below c.size-count.ensures.value in
    record {
      sum = (let e : c.loop-r.count + c.size-count.result ≡ before (size p) (c.loop-r.r + 1) = omega (arith, c.loop-r.invariant.sum, c.size-count.ensures.value, before-more (size p) c.loop-r.r) in e);
      few = omega (arith, c.loop-r.invariant.few, here);
    }
