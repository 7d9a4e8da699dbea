use Rattle.qam_points.proofs.Receiving.{mapped-small, received_points-nearby}
use Rattle.qam_points.proofs.laws.coordinates_are_bounded.Goals as goal

pub returns-clause-sent : goal.returns-clause-sent
returns-clause-sent c = mapped-small

pub returns-clause-received : goal.returns-clause-received
returns-clause-received c = received_points-nearby
