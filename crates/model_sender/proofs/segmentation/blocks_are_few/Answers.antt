use Rattle.std.proofs.Common.{arith}
use Rattle.model_sender.proofs.PlanLaws.{plan-sound}
use Rattle.model_sender.proofs.segmentation.blocks_are_few.Goals as goal

pub returns-clause-some : goal.returns-clause-some
returns-clause-some c bytes some few = (plan-sound bytes some few).some

pub returns-clause-few : goal.returns-clause-few
returns-clause-few c bytes some few = (plan-sound bytes some few).few

pub returns-clause-counts : goal.returns-clause-counts
returns-clause-counts c bytes some few = (plan-sound bytes some few).counts

pub returns-clause-larger : goal.returns-clause-larger
returns-clause-larger c bytes some few = let plan = plan-sound bytes some few in omega (arith, plan.counts, plan.smaller_few)
