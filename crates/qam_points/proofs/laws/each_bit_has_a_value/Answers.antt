use Rattle.qam_points.proofs.Receiving.{length-mapped, length-received}
use Rattle.qam_points.proofs.laws.each_bit_has_a_value.Goals as goal

pub returns-clause-points : goal.returns-clause-points
returns-clause-points c = length-mapped

pub returns-clause-values : goal.returns-clause-values
returns-clause-values c = length-received
