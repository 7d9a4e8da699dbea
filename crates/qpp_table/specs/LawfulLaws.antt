-- The laws of numbers that are known to be lawful, without the inverse that shows it.
use Rattle.std.proofs.Common.{◌≡◌, ℕ, ◌<◌, arith}
use Rattle.std.proofs.Props.{props}
use mathlib.Core.Logic.{∥∥₁_elim}
use Rattle.model_sender.specs.Interleaver.{Lawful, pi}
use Rattle.model_sender.specs.InterleaverLaws.{pi_below, pi_differs}

pub lawful-below : (k f1 f2 i : ℕ) → i < k → pi k f1 f2 i < k
lawful-below k f1 f2 i h = pi_below k f1 f2 i (omega (arith, h))

pub lawful_differs : (k f1 f2 i j : ℕ) → ∥ Lawful k f1 f2 ∥₁ → i < k → j < k → pi k f1 f2 i ≡ pi k f1 f2 j → i ≡ j
lawful_differs k f1 f2 i j lawful li lj e = ∥∥₁_elim lawful (hlevel props) (λ law. pi_differs k f1 f2 i j law li lj e)
