use Rattle.model_sender.proofs.PlanLaws.{plan-sound}
use Rattle.model_sender.proofs.segmentation.blocks_are_filled.Goals as goal

pub returns : goal.returns
returns c bytes some few = (plan-sound bytes some few).filled
