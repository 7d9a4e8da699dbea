use Rattle.model_sender.proofs.CheckBitLaws.{crc-is}
use Rattle.model_sender.proofs.check_bits.crc_is_the_one.Goals as goal

pub returns : goal.returns
returns c = crc-is
