use Rattle.model_sender.proofs.RowLaws.{all_rows}
use Rattle.model_sender.proofs.interleaver.rows_are_lawful.Goals as goal

pub returns-clause-lawful : goal.returns-clause-lawful
returns-clause-lawful c = λ k d h. (all_rows k d h).lawful

pub returns-clause-small : goal.returns-clause-small
returns-clause-small c = all_rows
