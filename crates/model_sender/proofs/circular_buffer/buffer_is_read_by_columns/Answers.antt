use Rattle.model_sender.proofs.BufferLaws.{first-read, second-read, third-read}
use Rattle.model_sender.proofs.circular_buffer.buffer_is_read_by_columns.Goals as goal

pub returns-clause-first : goal.returns-clause-first
returns-clause-first c = first-read

pub returns-clause-second : goal.returns-clause-second
returns-clause-second c = second-read

pub returns-clause-third : goal.returns-clause-third
returns-clause-third c = third-read
