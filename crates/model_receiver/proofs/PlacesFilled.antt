-- A map of the places below k to themselves that keeps them apart reaches each of them.
use Rattle.std.proofs.Common.{◌≡◌, ℕ, zero, suc, ◌<◌, ◌≤◌, ◌⊎◌, Bool, true, false, cond, refl, sym, ap, ◌∙◌, subst, inl, inr, arith}
use Rattle.std.specs.Prelude.{eqb}
use Rattle.std.proofs.lemmas.Bool.{eqb-true, eqb-false, cases_lt}
use Rattle.model_receiver.proofs.FirstOfRange.{first}

pub record KeepsApart (f : ℕ → ℕ) (n k : ℕ) : Type 0 where
  pub below : (i : ℕ) → i < n → f i < k
  pub apart : (i j : ℕ) → i < n → j < n → f i ≡ f j → i ≡ j

-- f with the value x in place of the value k
instead : (ℕ → ℕ) → ℕ → ℕ → ℕ → ℕ
instead f k x i = cond (eqb (f i) k) x (f i)

instead-cases : (f : ℕ → ℕ) (k x i : ℕ) → ((f i ≡ k) × (instead f k x i ≡ x)) ⊎ ((f i ≡ k → ⊥) × (instead f k x i ≡ f i))
unfolding instead
instead-cases f k x i = by_test (eqb (f i) k) refl
  where
    by_test : (b : Bool) → eqb (f i) k ≡ b → ((f i ≡ k) × (cond (eqb (f i) k) x (f i) ≡ x)) ⊎ ((f i ≡ k → ⊥) × (cond (eqb (f i) k) x (f i) ≡ f i))
    by_test true e = inl (eqb-true (f i) k e, ap (λ b. cond b x (f i)) e)
    by_test false e = inr (eqb-false (f i) k e, ap (λ b. cond b x (f i)) e)

-- where x is below k and isn't a value, the values go down by one
lowered : (f : ℕ → ℕ) (n k x : ℕ) → KeepsApart f n (suc k) → (x ≡ k → (i : ℕ) → i < n → f i ≡ k → ⊥) → x ≤ k → ((i : ℕ) → i < n → f i ≡ x → ⊥) → KeepsApart (instead f k x) n k
lowered f n k x h last le free = record {
  below = λ i lt.
      elim (instead-cases f k x i) [
        | inl w ↦ elim (cases_lt x k) [
          | inl small ↦ subst (λ v. v < k) (sym w.1) small
          | inr large ↦ absurd (last (let e : x ≡ k = omega (arith, le, large) in e) i lt w.0)
        ]
        | inr w ↦ (let b = h.below i lt in subst (λ v. v < k) (sym w.1) (smaller (f i) b w.0))
      ];
  apart = λ i j li lj e.
      elim (instead-cases f k x i) [
        | inl v ↦ elim (instead-cases f k x j) [
          | inl w ↦ h.apart i j li lj (v.0 ∙ sym w.0)
          | inr w ↦ absurd (free j lj (sym w.1 ∙ (sym e ∙ v.1)))
        ]
        | inr v ↦ elim (instead-cases f k x j) [
          | inl w ↦ absurd (free i li (sym v.1 ∙ (e ∙ w.1)))
          | inr w ↦ h.apart i j li lj (sym v.1 ∙ (e ∙ w.1))
        ]
      ];
}
  where
    smaller : (v : ℕ) → v < suc k → (v ≡ k → ⊥) → v < k
    smaller v lt other = elim (cases_lt v k) [ inl h ↦ h | inr h ↦ absurd (other (let e : v ≡ k = omega (arith, lt, h) in e)) ]

-- more places than values can't be kept apart
too_many : (k : ℕ) (f : ℕ → ℕ) → KeepsApart f (suc k) k → ⊥
too_many zero f h = let b = h.below 0 (omega arith) in omega (arith, b)
too_many (suc k) f h =
    let x : ℕ = f (suc k) in
    let b : x < suc k = h.below (suc k) (omega arith) in
    let fewer : KeepsApart f (suc k) (suc k) = record { below = λ i lt. h.below i (omega (arith, lt)); apart = λ i j li lj. h.apart i j (omega (arith, li)) (omega (arith, lj)) } in
    let free : (i : ℕ) → i < suc k → f i ≡ x → ⊥ = λ i lt e. (let s : i ≡ suc k = h.apart i (suc k) (omega (arith, lt)) (omega arith) e in omega (arith, s, lt)) in
    too_many k (instead f k x) (lowered f (suc k) k x fewer (λ e i lt at. free i lt (at ∙ sym e)) (omega (arith, b)) free)

-- each place is reached
pub reached-all : (k : ℕ) (f : ℕ → ℕ) (n : ℕ) → KeepsApart f k k → n < k → (i : ℕ) × (i < k) × (f i ≡ n)
reached-all zero f n h lt = absurd (omega (arith, lt))
reached-all (suc k) f n h lt =
    elim (first (λ i. eqb (f i) n) 0 (suc k)) [
      | inr some ↦ (some.at, (let b = some.high in let lt : some.at < suc k = omega (arith, b) in lt), eqb-true (f some.at) n some.passes)
      | inl none ↦ (
          let free : (i : ℕ) → i < suc k → f i ≡ n → ⊥ = λ i li. eqb-false (f i) n (none.all i (omega arith) (omega (arith, li))) in
          absurd (too_many k (instead f k n) (lowered f (suc k) k n h (λ e i li at. free i li (at ∙ sym e)) (omega (arith, lt)) free)))
    ]
