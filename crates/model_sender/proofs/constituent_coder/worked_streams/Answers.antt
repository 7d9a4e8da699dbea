use Rattle.std.proofs.Common.{refl}
use Rattle.model_sender.specs.Interleaver.{row_of}
use Rattle.model_sender.proofs.constituent_coder.worked_streams.Goals as goal

pub returns : goal.returns
unfolding row_of
returns c = refl
