-- The orders of the halves permute the places; tests of numbers.
use Rattle.std.proofs.Common.{◌≡◌, ℕ, ◌==◌, ◌<◌, true, false, Contains, inl, inr}
use Rattle.std.proofs.lemmas.Bool.Decides.{eqb_tells}
use Rattle.model_sender.specs.Interleaver.{sizes, row_of, place}
use Rattle.model_sender.specs.InterleaverLaws.{pi_below}
use Rattle.model_sender.proofs.RowLaws.{lawful-of_size}
use Rattle.model_receiver.specs.HalfIteration.{order}
use Rattle.model_receiver.proofs.PlacesOfPositions as places

pub place-below : (k i : ℕ) → Contains sizes k → place k i < k
place-below k i size = pi_below k (row_of k).1 (row_of k).2 i (lawful-of_size k size).positive

pub order-below : (k h i : ℕ) → Contains sizes k → i < k → order k h i < k
order-below k h i size = (places.order-apart k h size).below i

pub order-apart : (k h i j : ℕ) → Contains sizes k → i < k → j < k → order k h i ≡ order k h j → i ≡ j
order-apart k h i j size = (places.order-apart k h size).apart i j

pub not-equal : (a b : ℕ) → (a ≡ b → ⊥) → (a == b) ≡ false
not-equal a b ne = elim (eqb_tells a b) [ inl t ↦ absurd (ne t.1) | inr f ↦ f.0 ]

pub equal : (a b : ℕ) → a ≡ b → (a == b) ≡ true
equal a b e = elim (eqb_tells a b) [ inl t ↦ t.0 | inr f ↦ absurd (f.1 e) ]
