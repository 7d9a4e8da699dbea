use Rattle.std.proofs.lemmas.Bool.{ltb-true, lt-ltb}
use Rattle.model_sender.specs.Segmentation.{plan_of}
use Rattle.model_sender.proofs.PlanLaws.{plan-sound}
use Rattle.model_sender.proofs.segmentation.smaller_size_is_the_greatest.Goals as goal

pub returns-clause-size : goal.returns-clause-size
returns-clause-size c bytes some few more = ((plan-sound bytes some few).several more).smaller.inside

pub returns-clause-below : goal.returns-clause-below
returns-clause-below c bytes some few more = ltb-true (plan_of bytes).k_minus (plan_of bytes).k_plus ((plan-sound bytes some few).several more).smaller.pass

pub returns-clause-greatest : goal.returns-clause-greatest
returns-clause-greatest c bytes k some few more size below =
    ((plan-sound bytes some few).several more).smaller.greatest k size (lt-ltb k (plan_of bytes).k_plus below)
