use Rattle.std.proofs.Common.{subst, sym}
use Rattle.tb_pipeline.specs.Completions.{AreSlotsOf, IsCompletionFor}
use Rattle.tb_pipeline.proofs.AnswerSteps.{slot_inside, slot_filled}
use Rattle.tb_pipeline.proofs.results.place.Goals as goal

pub swap_at-requires : goal.swap_at-requires
swap_at-requires g c =
    let answers = g.J.Job.answers in let jobs = c.args._jobs.now in
    slot_inside answers jobs c.args.slots.now c.requires.slots c.in-Done.number c.in-Done.done (subst (λ x. IsCompletionFor answers jobs x) c.in-Done.is c.requires.completion)

pub returns : goal.returns
returns g c =
    let answers = g.J.Job.answers in let jobs = c.args._jobs.now in
    subst (λ l. AreSlotsOf answers jobs l) (sym c.swap_at.ensures.slots)
    (slot_filled answers jobs c.args.slots.now c.requires.slots c.in-Done.number c.in-Done.done (subst (λ x. IsCompletionFor answers jobs x) c.in-Done.is c.requires.completion))
