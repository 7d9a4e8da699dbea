use Rattle.gold_scramble.specs.Registers.{started}
use Rattle.gold_scramble.proofs.Moving.{coming-moved_started, coming-started, moved-moved, whole_started}
use Rattle.gold_scramble.proofs.laws.generators_give_the_sequence.Goals as goal

pub returns-clause-begins : goal.returns-clause-begins
returns-clause-begins c = coming-started

pub returns-clause-goes_on : goal.returns-clause-goes_on
returns-clause-goes_on c = coming-moved_started

pub returns-clause-moves : goal.returns-clause-moves
returns-clause-moves c = λ init m n. moved-moved (started init) m n (whole_started init)
