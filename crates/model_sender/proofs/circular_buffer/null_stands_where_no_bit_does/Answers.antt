use Rattle.model_sender.proofs.BufferLaws.{null-where-none, spot-within}
use Rattle.model_sender.proofs.circular_buffer.null_stands_where_no_bit_does.Goals as goal

pub returns-clause-null : goal.returns-clause-null
returns-clause-null c = null-where-none

pub returns-clause-within : goal.returns-clause-within
returns-clause-within c = spot-within
