use Rattle.lane_banks.proofs.Words.{residues-ok, length-moved, moved-at}
use Rattle.lane_banks.proofs.shuffles.moved.Goals as goal

pub swizzle : goal.swizzle
swizzle c = residues-ok c.args.lanes c.requires.lanes

pub returns-clause-long : goal.returns-clause-long
returns-clause-long c = length-moved c.args.lanes c.requires.lanes c.args.words

pub returns-clause-moved : goal.returns-clause-moved
returns-clause-moved c = moved-at c.args.lanes c.requires.lanes c.args.words
