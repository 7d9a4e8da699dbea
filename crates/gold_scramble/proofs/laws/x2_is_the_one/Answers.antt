use Rattle.gold_scramble.proofs.Sequences.{x2_begins, x2_goes_on, x2_only}
use Rattle.gold_scramble.proofs.laws.x2_is_the_one.Goals as goal

pub returns-clause-begins : goal.returns-clause-begins
returns-clause-begins c = x2_begins

pub returns-clause-goes_on : goal.returns-clause-goes_on
returns-clause-goes_on c = x2_goes_on

pub returns-clause-only : goal.returns-clause-only
returns-clause-only c = x2_only
