use Rattle.qam_points.proofs.Coordinates.{near_least}
use Rattle.qam_points.proofs.Least.{least_one}
use Rattle.qam_points.specs.Demapping.{near}
use Rattle.qam_points.proofs.laws.near_is_the_least.Goals as goal

pub returns-clause-least : goal.returns-clause-least
returns-clause-least c = near_least

pub returns-clause-only : goal.returns-clause-only
returns-clause-only c = λ qm amp y i b m h is. least_one _ _ m (near qm amp y i b) is (near_least qm amp y i b h)
