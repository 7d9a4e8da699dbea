use Rattle.model_sender.specs.ConstituentCoder.{zero_state}
use Rattle.model_sender.proofs.Coder.{made, only}
use Rattle.model_sender.proofs.constituent_coder.coder_is_the_one.Goals as goal

pub returns-clause-satisfies : goal.returns-clause-satisfies
returns-clause-satisfies c = made zero_state

pub returns-clause-only : goal.returns-clause-only
returns-clause-only c = only zero_state
