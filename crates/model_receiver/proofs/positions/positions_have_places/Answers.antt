use Rattle.model_receiver.proofs.PlacesOfPositions.{order-apart, position-is, position-back}
use Rattle.model_receiver.proofs.positions.positions_have_places.Goals as goal

pub returns-clause-below : goal.returns-clause-below
returns-clause-below c = λ k h i size lt. (order-apart k h size).below i lt

pub returns-clause-position : goal.returns-clause-position
returns-clause-position c = λ k h n size lt. (position-is k h n size lt).0

pub returns-clause-place : goal.returns-clause-place
returns-clause-place c = λ k h n size lt. (position-is k h n size lt).1

pub returns-clause-back : goal.returns-clause-back
returns-clause-back c = position-back
