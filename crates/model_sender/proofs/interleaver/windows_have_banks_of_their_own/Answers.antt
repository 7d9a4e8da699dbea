use Rattle.model_sender.specs.Interleaver.{pi}
use Rattle.model_sender.specs.InterleaverLaws.{pi_below, lawful-interleaves, bank_below, bank-window}
use Rattle.model_sender.proofs.interleaver.windows_have_banks_of_their_own.Goals as goal

pub returns-clause-below : goal.returns-clause-below
returns-clause-below c = λ k f1 f2 m j t law d lj lt. bank_below k m _ d (pi_below k f1 f2 _ law.positive)

pub returns-clause-apart : goal.returns-clause-apart
returns-clause-apart c = λ k f1 f2 m j t u law. bank-window k (pi k f1 f2) m j t u (lawful-interleaves k f1 f2 law)
