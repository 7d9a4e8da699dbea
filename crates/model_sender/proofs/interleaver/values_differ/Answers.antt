use Rattle.model_sender.specs.InterleaverLaws.{pi_differs}
use Rattle.model_sender.proofs.interleaver.values_differ.Goals as goal

pub returns : goal.returns
returns c = pi_differs
