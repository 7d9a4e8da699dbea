use Rattle.model_sender.proofs.CheckBitLaws.{multiple-zeros}
use Rattle.model_sender.proofs.check_bits.zeros_are_a_multiple.Goals as goal

pub returns : goal.returns
returns c = multiple-zeros
