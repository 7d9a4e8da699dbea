use Rattle.model_sender.specs.InterleaverLaws.{pi_below}
use Rattle.model_sender.proofs.interleaver.values_are_below.Goals as goal

pub returns : goal.returns
returns c = λ k f1 f2 i law. pi_below k f1 f2 i law.positive
