-- The sizes stand in order, from 40 to 6144 and at most 64 apart, and are multiples of 8.
use Rattle.std.proofs.Common.{◌≡◌, ℕ, ◌+◌, ◌%◌, ◌<◌, ◌≤◌, Bool, true, ◌&&◌, leb, ltb, List, [], ◌∷◌, drop, Contains, refl, subst, inl, inr, arith}
use Rattle.std.specs.Prelude.{◌==◌}
use Rattle.std.specs.List.{list_all}
use Rattle.std.proofs.lemmas.Bool.{cases_lt, and_parts, eqb-true, leb-true}
use Rattle.std.proofs.lemmas.List.Sums.{AllPass-from_list_all}
use Rattle.model_sender.specs.Interleaver.{sizes}
use Rattle.model_sender.proofs.Extremes.{Contains-cases, Contains-more}

-- each is above the one before, and at most 64 above
abbrev steps_test : ℕ → List ℕ → Bool
steps_test x [] = true
steps_test x (y ∷ ys) = (ltb x y && leb y (x + 64)) && steps_test y ys

-- a size above the first has one below, at most 64 below
lower : (x : ℕ) (xs : List ℕ) → steps_test x xs ≡ true → (k : ℕ) → Contains (x ∷ xs) k → x < k → (j : ℕ) × Contains (x ∷ xs) j × (j < k) × (k ≤ j + 64)
lower x [] h k inside above = elim (Contains-cases x [] k inside) [ inl e ↦ absurd (omega (arith, e, above)) | inr none ↦ absurd (let lt : none.0 < 0 = none.1 in omega (arith, lt)) ]
lower x (y ∷ ys) h k inside above =
    let p = and_parts (ltb x y && leb y (x + 64)) (steps_test y ys) h in
    let q = and_parts (ltb x y) (leb y (x + 64)) p.0 in
    let step : y ≤ x + 64 = leb-true y (x + 64) q.1 in
    elim (Contains-cases x (y ∷ ys) k inside) [
      | inl e ↦ absurd (omega (arith, e, above))
      | inr later ↦ elim (cases_lt y k) [
        | inl far ↦ let rest = lower y ys p.1 k later far in (rest.0, Contains-more x (y ∷ ys) rest.0 rest.1, rest.2, rest.3)
        | inr near ↦ (x, (0, omega arith, refl), above, omega (arith, near, step))
      ]
    ]

pub size_40 : Contains sizes 40
unfolding sizes
size_40 = (0, omega arith, refl)

pub size_6144 : Contains sizes 6144
unfolding sizes
size_6144 = (187, omega arith, refl)

pub size-lower : (k : ℕ) → Contains sizes k → 40 < k → (j : ℕ) × Contains sizes j × (j < k) × (k ≤ j + 64)
unfolding sizes
size-lower k h above = lower 40 (drop 1 sizes) refl k h above

-- ---- they are whole bytes

eights : list_all (λ k. k % 8 == 0) sizes ≡ true
unfolding sizes
eights = refl

pub size-whole : (k : ℕ) → Contains sizes k → k % 8 ≡ 0
size-whole k inside =
    let P : ℕ → Type 0 = λ n. (n % 8 == 0) ≡ true in
    eqb-true (k % 8) 0 (subst P inside.2 (AllPass-from_list_all (λ k. k % 8 == 0) sizes eights inside.0 k inside.1))
