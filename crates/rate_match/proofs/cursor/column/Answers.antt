use Rattle.model_sender.proofs.PaddedStreams.{column-below}
use Rattle.rate_match.proofs.cursor.column.Goals as goal

pub returns-clause-small : goal.returns-clause-small
returns-clause-small c = column-below c.args.i c.requires
