use Rattle.std.proofs.Common.{refl}
use Rattle.model_sender.specs.Interleaver.{sizes}
use Rattle.model_sender.specs.Segmentation.{plan_of}
use Rattle.model_sender.proofs.selection.worked_selections.Goals as goal

pub returns : goal.returns
unfolding plan_of sizes
returns c = refl
