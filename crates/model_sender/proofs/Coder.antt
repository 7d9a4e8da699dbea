-- The two lists of the coder satisfy its equations, and are the only ones.
use Rattle.std.proofs.Common.{◌≡◌, ℕ, zero, suc, ◌<◌, List, [], ◌∷◌, length, refl, ap, ◌∙◌, arith}
use Rattle.lte_bits.specs.declared.bit.Bit.{Bit}
use Rattle.lte_bits.specs.declared.bit.Bit.TheVariants.{Zero, One}
use Rattle.model_sender.specs.Bits.{plus, at}
use Rattle.model_sender.specs.ConstituentCoder.{State, IsCoderFrom, past, value, parity, next, values_from, parities_from}

-- what was added twice is gone
pub added_twice : (x a b : Bit) → plus (plus (plus (plus x a) b) a) b ≡ x
added_twice Zero Zero Zero = refl
added_twice Zero Zero One = refl
added_twice Zero One Zero = refl
added_twice Zero One One = refl
added_twice One Zero Zero = refl
added_twice One Zero One = refl
added_twice One One Zero = refl
added_twice One One One = refl

abbrev pub IsMadeFrom : State → List Bit → Type 0
IsMadeFrom s c = IsCoderFrom s c (values_from s c) (parities_from s c)

pub made : (s : State) (c : List Bit) → IsMadeFrom s c
made s [] = record { a_long = refl; z_long = refl; a_is = λ k h. absurd (omega (arith, h)); z_is = λ k h. absurd (omega (arith, h)) }
made s (u ∷ us) =
    let rest : IsMadeFrom (next s u) us = made (next s u) us in
    record {
      a_long = omega (arith, rest.a_long);
      z_long = omega (arith, rest.z_long);
      a_is = λ k h. a_at s u us rest k h;
      z_is = λ k h. z_at s u us rest k h;
    }
  where
    a_at : (s : State) (u : Bit) (us : List Bit) → IsMadeFrom (next s u) us → (k : ℕ) → k < length (u ∷ us)
        → at (values_from s (u ∷ us)) k ≡ plus (plus (at (u ∷ us) k) (at (past s (values_from s (u ∷ us))) (suc k))) (at (past s (values_from s (u ∷ us))) k)
    a_at s u us rest zero h = refl
    a_at s u us rest (suc k) h = rest.a_is k (omega (arith, h))

    z_at : (s : State) (u : Bit) (us : List Bit) → IsMadeFrom (next s u) us → (k : ℕ) → k < length (u ∷ us)
        → at (parities_from s (u ∷ us)) k ≡ plus (plus (at (values_from s (u ∷ us)) k) (at (past s (values_from s (u ∷ us))) (suc (suc k)))) (at (past s (values_from s (u ∷ us))) k)
    z_at s u us rest zero h = refl
    z_at s u us rest (suc k) h = rest.z_is k (omega (arith, h))

pub only : (s : State) (c a z : List Bit) → IsCoderFrom s c a z → (a ≡ values_from s c) × (z ≡ parities_from s c)
only s [] [] [] h = (refl, refl)
only s [] (x ∷ a) z h = absurd (omega (arith, h.a_long))
only s [] [] (y ∷ z) h = absurd (omega (arith, h.z_long))
only s (u ∷ us) [] z h = absurd (omega (arith, h.a_long))
only s (u ∷ us) (x ∷ a) [] h = absurd (omega (arith, h.z_long))
only s (u ∷ us) (x ∷ a) (y ∷ z) h =
    let first : 0 < length (u ∷ us) = omega arith in
    let first_value : x ≡ value s u = h.a_is zero first in
    let first_parity : y ≡ plus (plus x s.a1) s.a3 = h.z_is zero first in
    let t : State = record { a1 = x; a2 = s.a1; a3 = s.a2 } in
    let rest : IsCoderFrom t us a z = record {
      a_long = omega (arith, h.a_long);
      z_long = omega (arith, h.z_long);
      a_is = λ k lt. h.a_is (suc k) (let below : suc k < length (u ∷ us) = omega (arith, lt) in below);
      z_is = λ k lt. h.z_is (suc k) (let below : suc k < length (u ∷ us) = omega (arith, lt) in below);
    } in
    let both = only t us a z rest in
    let state : t ≡ next s u = ap (λ (b : Bit). let v : State = record { a1 = b; a2 = s.a1; a3 = s.a2 } in v) first_value in (
      ap (λ b. b ∷ a) first_value ∙ ap (λ xs. value s u ∷ xs) (both.0 ∙ ap (λ v. values_from v us) state),
      ap (λ b. b ∷ z) (first_parity ∙ ap (λ b. plus (plus b s.a1) s.a3) first_value)
          ∙ ap (λ zs. parity s u ∷ zs) (both.1 ∙ ap (λ v. parities_from v us) state),
    )
