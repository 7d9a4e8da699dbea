use Rattle.lane_banks.proofs.Words.{words-of}
use Rattle.lane_banks.proofs.shuffles.words.Goals as goal

pub returns-clause-words : goal.returns-clause-words
returns-clause-words c = words-of c.args.row.now c.requires.long c.requires.within
