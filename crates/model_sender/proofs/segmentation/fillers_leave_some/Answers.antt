use Rattle.std.proofs.Common.{arith}
use Rattle.model_sender.proofs.PlanLaws.{plan-sound}
use Rattle.model_sender.proofs.PlanShares.{fillers-below}
use Rattle.model_sender.proofs.segmentation.fillers_leave_some.Goals as goal

pub returns-clause-one : goal.returns-clause-one
returns-clause-one c bytes some few one = ((plan-sound bytes some few).alone one).fillers

pub returns-clause-several : goal.returns-clause-several
returns-clause-several c bytes some few more = let several = (plan-sound bytes some few).several more in omega (arith, several.fillers, several.large)

pub returns-clause-first : goal.returns-clause-first
returns-clause-first c bytes some few = fillers-below bytes some few
