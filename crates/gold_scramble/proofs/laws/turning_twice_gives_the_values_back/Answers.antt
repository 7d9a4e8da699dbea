use Rattle.gold_scramble.specs.Sequence.{c as bit_of_sequence}
use Rattle.gold_scramble.proofs.Twice.{turned_by-turned_by}
use Rattle.gold_scramble.proofs.laws.turning_twice_gives_the_values_back.Goals as goal

pub returns : goal.returns
returns c = λ init. turned_by-turned_by (bit_of_sequence init)
