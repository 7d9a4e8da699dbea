use Rattle.model_sender.proofs.StreamNulls.{streams-nulls}
use Rattle.model_sender.proofs.circular_buffer.streams_have_nulls_at_fillers.Goals as goal

pub returns : goal.returns
returns c = streams-nulls
