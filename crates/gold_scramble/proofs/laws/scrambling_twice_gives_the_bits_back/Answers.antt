use Rattle.gold_scramble.specs.Sequence.{c as bit_of_sequence}
use Rattle.gold_scramble.proofs.Twice.{added-added}
use Rattle.gold_scramble.proofs.laws.scrambling_twice_gives_the_bits_back.Goals as goal

pub returns : goal.returns
returns c = λ init. added-added (bit_of_sequence init)
