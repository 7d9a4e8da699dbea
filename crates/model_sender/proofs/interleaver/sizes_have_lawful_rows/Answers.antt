use Rattle.model_sender.proofs.RowLaws.{row_found, row-of_size, lawful-of_size, range-of_size}
use Rattle.model_sender.proofs.interleaver.sizes_have_lawful_rows.Goals as goal

pub returns-clause-size : goal.returns-clause-size
returns-clause-size c = λ k h. (row_found k h).size

pub returns-clause-lawful : goal.returns-clause-lawful
returns-clause-lawful c = lawful-of_size

pub returns-clause-small : goal.returns-clause-small
returns-clause-small c = row-of_size

pub returns-clause-range : goal.returns-clause-range
returns-clause-range c = range-of_size
