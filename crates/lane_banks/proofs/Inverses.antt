-- The window of each bank.
use Rattle.std.proofs.Common.{◌≡◌, ℕ, ◌<◌, ◌≤◌, List, [], length, get_or, set, replicate, sym, ap, ◌∙◌, subst, arith, inl, inr, get_or-set_other, get_or-set_same}
use Rattle.std.specs.Prelude.{slice_index}
use Rattle.std.proofs.lemmas.Bool.{cases_eq}
use Rattle.std.proofs.lemmas.List.{get_or-replicate, length-replicate, length-set}
use Rattle.model_receiver.proofs.PlacesFilled.{reached-all}
use Rattle.lane_banks.specs.Permutations.{AreDistinct, IsInverse, AreInverse}

-- every bank is that of some window
pub bank-reached : (n : ℕ) (banks : List ℕ) → AreDistinct n banks → (b : ℕ) → b < n → ((t : ℕ) → t < n → slice_index banks t ≡ b → ⊥) → ⊥
bank-reached n banks distinct b lt free =
    let h = reached-all n (slice_index banks) b (record { below = distinct.below; apart = distinct.apart }) lt in free h.0 h.1 h.2

zero-inverse : (n : ℕ) → 8 ≤ n → IsInverse n (replicate n 0) (replicate n 0)
zero-inverse n some = record {
  below = λ b lt. subst (λ (k : ℕ). k < n) (sym (get_or-replicate n b 0 0 lt)) (omega (arith, some));
  window = λ distinct t lt.
      let same : slice_index (replicate n 0) 0 ≡ slice_index (replicate n 0) 1 =
      get_or-replicate n 0 0 0 (omega (arith, some)) ∙ sym (get_or-replicate n 1 0 0 (omega (arith, some))) in
      absurd (omega (arith, distinct.apart 0 1 (omega (arith, some)) (omega (arith, some)) same));
}

-- rows of zeros, before any step
pub zeros-inverse : (n w : ℕ) (banks windows : List (List ℕ)) → 8 ≤ n → banks ≡ replicate w (replicate n 0) → windows ≡ replicate w (replicate n 0) → AreInverse n banks windows
zeros-inverse n w banks windows some eb ew j lt =
    let inside : j < w = omega (arith, lt, ap length eb ∙ length-replicate w (replicate n 0)) in
    let b : get_or banks j [] ≡ replicate n 0 = ap (λ (xs : List (List ℕ)). get_or xs j []) eb ∙ get_or-replicate w j (replicate n 0) [] inside in
    let v : get_or windows j [] ≡ replicate n 0 = ap (λ (xs : List (List ℕ)). get_or xs j []) ew ∙ get_or-replicate w j (replicate n 0) [] inside in
    subst (λ (xs : List ℕ). IsInverse n xs (get_or windows j [])) (sym b) (subst (λ (xs : List ℕ). IsInverse n (replicate n 0) xs) (sym v) (zero-inverse n some))

-- one more step
pub inverse-more : (n j : ℕ) (banks windows : List (List ℕ)) (bank window : List ℕ) → length windows ≡ length banks → AreInverse n banks windows → IsInverse n bank window
    → AreInverse n (set banks j bank) (set windows j window)
inverse-more n j banks windows bank window long all here i lt =
    let li : i < length banks = omega (arith, lt, length-set banks j bank) in
    elim (cases_eq i j) [
      | inl e ↦
          let lj : j < length banks = omega (arith, li, e) in
          let b : get_or (set banks j bank) i [] ≡ bank = ap (λ (k : ℕ). get_or (set banks j bank) k []) e ∙ get_or-set_same banks j bank [] lj in
          let v : get_or (set windows j window) i [] ≡ window = ap (λ (k : ℕ). get_or (set windows j window) k []) e ∙ get_or-set_same windows j window [] (omega (arith, lj, long)) in
          subst (λ (xs : List ℕ). IsInverse n xs (get_or (set windows j window) i [])) (sym b) (subst (λ (xs : List ℕ). IsInverse n bank xs) (sym v) here)
      | inr ne ↦
          let b = get_or-set_other banks j i bank [] ne in
          let v = get_or-set_other windows j i window [] ne in
          subst (λ (xs : List ℕ). IsInverse n xs (get_or (set windows j window) i [])) (sym b) (subst (λ (xs : List ℕ). IsInverse n (get_or banks i []) xs) (sym v) (all i li))
    ]
