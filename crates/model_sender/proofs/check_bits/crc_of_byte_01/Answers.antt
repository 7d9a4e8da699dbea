use Rattle.std.proofs.Common.{refl}
use Rattle.model_sender.specs.CheckBits.{crc}
use Rattle.model_sender.proofs.check_bits.crc_of_byte_01.Goals as goal

pub returns-clause-a : goal.returns-clause-a
unfolding crc
returns-clause-a c = refl

pub returns-clause-b : goal.returns-clause-b
unfolding crc
returns-clause-b c = refl
