use Rattle.gold_scramble.specs.Sequence.{c as bit_of_sequence}
use Rattle.gold_scramble.proofs.Twice.{length-added, length-turned_by}
use Rattle.gold_scramble.proofs.laws.lengths_stay.Goals as goal

pub returns-clause-bits : goal.returns-clause-bits
returns-clause-bits c = λ init. length-added (bit_of_sequence init)

pub returns-clause-softs : goal.returns-clause-softs
returns-clause-softs c = λ init. length-turned_by (bit_of_sequence init)
