use Rattle.model_sender.proofs.SelectionLaws.{fitting_bit}
use Rattle.model_sender.proofs.selection.some_bit_is_kept_where_it_fits.Goals as goal

pub returns : goal.returns
returns c = fitting_bit
