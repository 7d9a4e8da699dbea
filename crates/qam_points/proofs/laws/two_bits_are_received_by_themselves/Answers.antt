use Rattle.qam_points.proofs.Receiving.{received-two}
use Rattle.qam_points.proofs.laws.two_bits_are_received_by_themselves.Goals as goal

pub returns : goal.returns
returns c = received-two
