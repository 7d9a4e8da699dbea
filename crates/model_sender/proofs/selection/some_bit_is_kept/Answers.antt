use Rattle.model_sender.proofs.SelectionLaws.{some_bit}
use Rattle.model_sender.proofs.selection.some_bit_is_kept.Goals as goal

pub returns : goal.returns
returns c = some_bit
