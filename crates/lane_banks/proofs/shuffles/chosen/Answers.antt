use Rattle.lane_banks.proofs.Words.{length-chosen, chosen-at}
use Rattle.lane_banks.proofs.shuffles.chosen.Goals as goal

pub returns-clause-long : goal.returns-clause-long
returns-clause-long c = length-chosen c.args.lanes c.args.before c.args.later c.args.first c.requires.lanes c.requires.before c.requires.later

pub returns-clause-chosen : goal.returns-clause-chosen
returns-clause-chosen c = chosen-at c.args.lanes c.args.before c.args.later c.args.first c.requires.lanes c.requires.before c.requires.later
