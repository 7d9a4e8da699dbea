use Rattle.std.proofs.Common.{◌≡◌, ℕ, ◌+◌, ◌≤◌, ap, arith}
use Rattle.model_sender.specs.Segmentation.{Plan}
use Rattle.segmentation.specs.Plans.{IsPlan}
use Rattle.segmentation.proofs.OfPlans.{sound-plan}
use Rattle.soft_buffers.specs.Flat.{cells_in}
use Rattle.soft_buffers.specs.Parts.{before}
use Rattle.soft_buffers.proofs.PartLaws.{before-more}
use Rattle.soft_buffers.proofs.flat.cell_count.Goals as goal

few : (p : Plan) → IsPlan p → p.c ≤ 25
few p is = (sound-plan p is).few

pub overflow_add-count : goal.overflow_add-count
overflow_add-count c =
    let count = ap (λ (q : Plan). q.c) c.plan.view_is in
    let most = few c.args.plan.now c.cells_in-count.ensures.lawful in
    omega (arith, c.loop-r-test.true, count, most, c.loop-r.invariant.few, c.cells_in-count.ensures.few)

pub loop-r-preserved : goal.loop-r-preserved
loop-r-preserved c =
    let long : ℕ → ℕ = cells_in c.args.plan.now in
    record {
      sum = (let e : c.loop-r.count + c.cells_in-count.result ≡ before long (c.loop-r.r + 1) = omega (arith, c.loop-r.invariant.sum, c.cells_in-count.ensures.value, before-more long c.loop-r.r) in e);
      few = omega (arith, c.loop-r.invariant.few, c.cells_in-count.ensures.few);
    }
