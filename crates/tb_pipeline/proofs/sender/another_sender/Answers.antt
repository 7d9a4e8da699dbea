use Rattle.tb_pipeline.proofs.AnswerSteps.{twins_one}
use Rattle.tb_pipeline.proofs.sender.another_sender.Goals as goal

pub another-other-requires-clause-rule : goal.another-other-requires-clause-rule
another-other-requires-clause-rule g c = twins_one g.J.Job.answers _ _ _ c.requires.jobs.1
