use Rattle.model_receiver.proofs.SoftSums.{cell-more}
use Rattle.model_receiver.proofs.soft_cells.values_are_added_as_they_come.Goals as goal

pub returns : goal.returns
returns c = cell-more
