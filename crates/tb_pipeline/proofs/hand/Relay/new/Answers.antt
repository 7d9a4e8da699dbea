use Rattle.tb_pipeline.proofs.RelaySteps.{begins}
use Rattle.tb_pipeline.proofs.hand.Relay.new.Goals as goal

pub ruled-requires-clause-rule : goal.ruled-requires-clause-rule
ruled-requires-clause-rule g c = begins
