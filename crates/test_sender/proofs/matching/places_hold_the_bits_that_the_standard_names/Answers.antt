use Rattle.model_sender.proofs.SizeTable.{size_40}
use Rattle.test_sender.proofs.matching.places_hold_the_bits_that_the_standard_names.Goals as goal

pub spot-requires-clause-size : goal.spot-requires-clause-size
spot-requires-clause-size g c = size_40
