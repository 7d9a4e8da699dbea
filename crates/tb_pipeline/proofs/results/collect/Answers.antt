use Rattle.tb_pipeline.proofs.AnswerSteps.{comes_one}
use Rattle.tb_pipeline.proofs.results.collect.Goals as goal

pub try_pop_as-requires-clause-rule : goal.try_pop_as-requires-clause-rule
try_pop_as-requires-clause-rule g c = comes_one g.J.Job.answers _ _ _ c.loop.invariant.1
