use Rattle.model_sender.proofs.CheckBitLaws.{multiple-remainder}
use Rattle.model_sender.proofs.check_bits.multiples_leave_nothing.Goals as goal

pub returns : goal.returns
returns c = multiple-remainder
