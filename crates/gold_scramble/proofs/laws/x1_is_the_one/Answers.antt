use Rattle.gold_scramble.proofs.Sequences.{x1_begins, x1_goes_on, x1_only, x1_zeros}
use Rattle.gold_scramble.proofs.laws.x1_is_the_one.Goals as goal

pub returns-clause-begins : goal.returns-clause-begins
returns-clause-begins c = x1_begins

pub returns-clause-zeros : goal.returns-clause-zeros
returns-clause-zeros c = x1_zeros

pub returns-clause-goes_on : goal.returns-clause-goes_on
returns-clause-goes_on c = x1_goes_on

pub returns-clause-only : goal.returns-clause-only
returns-clause-only c = x1_only
