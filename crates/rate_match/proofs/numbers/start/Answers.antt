use Rattle.rate_match.proofs.SizeSteps.{size-step}
use Rattle.rate_match.proofs.numbers.start.Goals as goal

pub rows_of-rows-requires : goal.rows_of-rows-requires
rows_of-rows-requires c = (size-step c.args.k c.requires.size).few
