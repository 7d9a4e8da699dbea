use Rattle.std.proofs.Common.{ap, subst, arith}
use Rattle.model_sender.specs.Segmentation.{Plan}
use Rattle.segmentation.specs.Plans.{IsPlan}
use Rattle.segmentation.proofs.OfPlans.{sound-plan}
use Rattle.rate_match.proofs.SizeSteps.{size-step}
use Rattle.rate_match.proofs.fitting.fits_buffer.Goals as goal

pub rows_of-requires : goal.rows_of-requires
rows_of-requires c =
    let plan : Plan = c.args.plan.now in
    let step = size-step plan.k_plus (sound-plan plan (subst IsPlan c.plan.view_is c.plan.invariant)).larger.inside in
    omega (arith, step.few, ap (λ (p : Plan). p.k_plus) c.plan.view_is)

pub nonzero_div-result : goal.nonzero_div-result
nonzero_div-result c =
    let plan : Plan = c.args.plan.now in
    omega (arith, (sound-plan plan (subst IsPlan c.plan.view_is c.plan.invariant)).some, ap (λ (p : Plan). p.c) c.plan.view_is)
