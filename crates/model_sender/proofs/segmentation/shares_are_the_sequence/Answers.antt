use Rattle.model_sender.proofs.PlanShares.{before-all}
use Rattle.model_sender.proofs.segmentation.shares_are_the_sequence.Goals as goal

pub returns : goal.returns
returns c payload some few = before-all payload some few
