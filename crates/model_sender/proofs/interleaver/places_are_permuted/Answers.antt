use Rattle.model_sender.specs.Interleaver.{row_of}
use Rattle.model_sender.specs.InterleaverLaws.{pi_below, pi_differs}
use Rattle.model_sender.proofs.RowLaws.{lawful-of_size}
use Rattle.model_sender.proofs.interleaver.places_are_permuted.Goals as goal

pub returns-clause-below : goal.returns-clause-below
returns-clause-below c = λ k i h. pi_below k (row_of k).1 (row_of k).2 i (lawful-of_size k h).positive

pub returns-clause-apart : goal.returns-clause-apart
returns-clause-apart c = λ k i j h. pi_differs k (row_of k).1 (row_of k).2 i j (lawful-of_size k h)
