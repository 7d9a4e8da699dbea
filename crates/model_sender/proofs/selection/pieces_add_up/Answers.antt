use Rattle.model_sender.proofs.Pieces.{pieces-sum}
use Rattle.model_sender.proofs.selection.pieces_add_up.Goals as goal

pub returns : goal.returns
returns c = pieces-sum
