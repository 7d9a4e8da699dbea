use Rattle.tb_pipeline.proofs.RelaySteps.{deals_one}
use Rattle.tb_pipeline.proofs.filling.deal.Goals as goal

pub another-requires-clause-rule : goal.another-requires-clause-rule
another-requires-clause-rule c = deals_one _ _ c.loop.invariant.1
