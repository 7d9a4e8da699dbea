use Rattle.model_sender.proofs.RowLaws.{row_found}
use Rattle.model_sender.proofs.interleaver.sizes_stand_in_the_table.Goals as goal

pub returns : goal.returns
returns c = λ k h. (row_found k h).inside
