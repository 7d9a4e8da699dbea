use Rattle.model_sender.proofs.CheckBitLaws.{length-crc}
use Rattle.model_sender.proofs.check_bits.crc_has_24_bits.Goals as goal

pub returns : goal.returns
returns c = length-crc
