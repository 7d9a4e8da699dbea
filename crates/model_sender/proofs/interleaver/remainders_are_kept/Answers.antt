use Rattle.model_sender.specs.InterleaverLaws.{pi_remainder}
use Rattle.model_sender.proofs.interleaver.remainders_are_kept.Goals as goal

pub returns : goal.returns
returns c = λ k f1 f2 w i law. pi_remainder k f1 f2 w i
