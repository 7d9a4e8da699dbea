-- Three quarters of a clamped number.
use Rattle.std.proofs.Common.{◌≡◌, ℕ, zero, suc, ◌*◌, ◌/◌, ◌<◌, ◌≤◌, ℤ, pos, negsuc, neg_ℤ, ◌*ℤ◌, refl, ap, sym, ◌∙◌, inl, inr, arith}
use Rattle.std.specs.Prelude.{int_div}
use Rattle.std.specs.Int.{int_max, int_min}
use Rattle.std.proofs.lemmas.Bool.{cases_lt}
use Rattle.std.proofs.lemmas.Int.{ints, clamps}
use Rattle.lte_bits.specs.Softs.{clamped}
use Rattle.model_receiver.specs.Windows.{scaled}

-- a quotient is rounded toward zero
negative : (m : ℕ) → int_div (neg_ℤ (pos m)) (pos 4) ≡ neg_ℤ (pos (m / 4))
negative zero = refl
negative (suc m) = refl

-- three quarters of 682 are 511
pub quarters : (x z : ℤ) → z ≡ int_max (negsuc 681) (int_min x (pos 682)) → int_div (z *ℤ pos 3) (pos 4) ≡ scaled x
quarters (pos n) z e =
    elim (cases_lt 682 n) [
      | inl over ↦ ap (λ v. int_div (v *ℤ pos 3) (pos 4)) (let is : z ≡ pos 682 = omega (arith, ints, clamps, e, over) in is) ∙ above n over
      | inr under ↦ ap (λ v. int_div (v *ℤ pos 3) (pos 4)) (let is : z ≡ pos n = omega (arith, ints, clamps, e, under) in is) ∙ within n under
    ]
  where
    above : (n : ℕ) → 682 < n → pos 511 ≡ clamped 511 (pos (3 * n / 4))
    above n h = omega (arith, ints, clamps)

    within : (n : ℕ) → n ≤ 682 → pos (n * 3 / 4) ≡ clamped 511 (pos (3 * n / 4))
    within n h = omega (arith, ints, clamps)
quarters (negsuc n) z e =
    elim (cases_lt 681 n) [
      | inl under ↦ ap (λ v. int_div (v *ℤ pos 3) (pos 4)) (let is : z ≡ negsuc 681 = omega (arith, ints, clamps, e, under) in is)
          ∙ (below n under ∙ ap (clamped 511) (sym (negative (3 * suc n))))
      | inr over ↦ ap (λ v. int_div (v *ℤ pos 3) (pos 4)) (let is : z ≡ negsuc n = omega (arith, ints, clamps, e, over) in is)
          ∙ (negative (suc n * 3) ∙ (within n over ∙ ap (clamped 511) (sym (negative (3 * suc n)))))
    ]
  where
    below : (n : ℕ) → 681 < n → negsuc 510 ≡ clamped 511 (neg_ℤ (pos (3 * suc n / 4)))
    below n h = omega (arith, ints, clamps)

    within : (n : ℕ) → n ≤ 681 → neg_ℤ (pos (suc n * 3 / 4)) ≡ clamped 511 (neg_ℤ (pos (3 * suc n / 4)))
    within n h = omega (arith, ints, clamps)
