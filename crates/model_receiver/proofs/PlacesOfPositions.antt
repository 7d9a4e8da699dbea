-- Positions and the places for which they stand.
use Rattle.std.proofs.Common.{◌≡◌, ℕ, ◌%◌, ◌<◌, Bool, true, false, sym, ap, ◌∙◌, subst, inl, inr, Contains, arith}
use Rattle.std.specs.Prelude.{◌==◌, if◌then◌else◌, unwrap_or}
use Rattle.std.proofs.lemmas.Bool.{eqb-true, eqb-false}
use Rattle.model_sender.specs.Interleaver.{sizes, place, row_of}
use Rattle.model_sender.specs.InterleaverLaws.{pi_below, pi_differs}
use Rattle.model_sender.proofs.RowLaws.{lawful-of_size}
use Rattle.model_receiver.specs.HalfIteration.{order, position_of}
use Rattle.model_receiver.proofs.FirstOfRange.{first}
use Rattle.model_receiver.proofs.PlacesFilled.{KeepsApart, reached-all}

pub order-apart : (k h : ℕ) → Contains sizes k → KeepsApart (order k h) k k
order-apart k h size = by_test (h % 2 == 0)
  where
    by_test : (b : Bool) → KeepsApart (λ i. if b then i else place k i) k k
    by_test true = record { below = λ i lt. lt; apart = λ i j li lj e. e }
    by_test false = record {
      below = λ i lt. pi_below k (row_of k).1 (row_of k).2 i (lawful-of_size k size).positive;
      apart = λ i j. pi_differs k (row_of k).1 (row_of k).2 i j (lawful-of_size k size);
    }

pub position-is : (k h n : ℕ) → Contains sizes k → n < k → (position_of k h n < k) × (order k h (position_of k h n) ≡ n)
position-is k h n size lt =
    elim (first (λ i. order k h i == n) 0 k) [
      | inr some ↦ (
          let e : position_of k h n ≡ some.at = ap (λ r. unwrap_or r 0) some.is in
          let b = some.high in
          let is : order k h some.at ≡ n = eqb-true (order k h some.at) n some.passes in
          (subst (λ i. i < k) (sym e) (omega (arith, b)), ap (order k h) e ∙ is))
      | inl none ↦ (
          let w = reached-all k (order k h) n (order-apart k h size) lt in
          absurd (eqb-false (order k h w.0) n (none.all w.0 (omega arith) (let b = w.1 in omega (arith, b))) w.2))
    ]

pub position-back : (k h i : ℕ) → Contains sizes k → i < k → position_of k h (order k h i) ≡ i
position-back k h i size lt =
    let apart = order-apart k h size in
    let w = position-is k h (order k h i) size (apart.below i lt) in
    apart.apart (position_of k h (order k h i)) i w.0 lt w.1
