use Rattle.std.proofs.Common.{◌*◌}
use Rattle.std.proofs.lemmas.Bool.{leb-true, le-leb}
use Rattle.model_sender.specs.Segmentation.{bits_of, carried, plan_of}
use Rattle.model_sender.proofs.PlanLaws.{plan-sound}
use Rattle.model_sender.proofs.segmentation.larger_size_is_the_least.Goals as goal

pub returns-clause-size : goal.returns-clause-size
returns-clause-size c bytes some few = (plan-sound bytes some few).larger.inside

pub returns-clause-enough : goal.returns-clause-enough
returns-clause-enough c bytes some few = leb-true (carried (bits_of bytes)) ((plan_of bytes).c * (plan_of bytes).k_plus) (plan-sound bytes some few).larger.pass

pub returns-clause-least : goal.returns-clause-least
returns-clause-least c bytes k some few size enough = (plan-sound bytes some few).larger.least k size (le-leb (carried (bits_of bytes)) ((plan_of bytes).c * k) enough)
