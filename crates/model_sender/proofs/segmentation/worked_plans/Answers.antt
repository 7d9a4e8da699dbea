use Rattle.std.proofs.Common.{refl}
use Rattle.model_sender.specs.Interleaver.{sizes}
use Rattle.model_sender.specs.Segmentation.{plan_of}
use Rattle.model_sender.proofs.segmentation.worked_plans.Goals as goal

pub returns-clause-one : goal.returns-clause-one
unfolding plan_of sizes
returns-clause-one c = refl

pub returns-clause-two : goal.returns-clause-two
unfolding plan_of sizes
returns-clause-two c = refl

pub returns-clause-most : goal.returns-clause-most
unfolding plan_of sizes
returns-clause-most c = refl
