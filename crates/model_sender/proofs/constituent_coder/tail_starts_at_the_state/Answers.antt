use Rattle.model_sender.proofs.TailSteps.{tail_x-after, tail_z-after}
use Rattle.model_sender.proofs.constituent_coder.tail_starts_at_the_state.Goals as goal

pub returns-clause-input : goal.returns-clause-input
returns-clause-input c = tail_x-after

pub returns-clause-parity : goal.returns-clause-parity
returns-clause-parity c = tail_z-after
