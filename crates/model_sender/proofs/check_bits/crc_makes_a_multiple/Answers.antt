use Rattle.model_sender.specs.CheckBits.{crc24a, crc24b}
use Rattle.model_sender.proofs.CheckBitLaws.{crc24a-monic, crc24b-monic, crc-is}
use Rattle.model_sender.proofs.check_bits.crc_makes_a_multiple.Goals as goal

pub returns-clause-a : goal.returns-clause-a
returns-clause-a c = λ bits. (crc-is crc24a bits crc24a-monic).multiple

pub returns-clause-b : goal.returns-clause-b
returns-clause-b c = λ bits. (crc-is crc24b bits crc24b-monic).multiple
