use Rattle.std.proofs.Common.{Some, ap, ◌∙◌}
use Rattle.tb_pipeline.specs.Completions.{values_of}
use Rattle.tb_pipeline.proofs.AnswerSteps.{opens_one}
use Rattle.tb_pipeline.proofs.results.open_results.Goals as goal

pub try_push_as-requires-clause-rule : goal.try_push_as-requires-clause-rule
try_push_as-requires-clause-rule g c =
    opens_one g.J.Job.answers _ _ _ _ c.args.jobs.now c.loop.invariant.3 (ap Some (ap (λ all. values_of all.items) c.of.ensures ∙ c.loop.invariant.4)) tt
