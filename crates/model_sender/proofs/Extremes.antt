-- The least and the greatest of the numbers of a list that pass a test.
use Rattle.std.proofs.Common.{◌≡◌, ℕ, zero, suc, ◌<◌, ◌≤◌, ◌⊎◌, Bool, true, false, cond, List, [], ◌∷◌, length, get_or, filter, fold, min, max, Contains, refl, sym, ap, ◌∙◌, subst, inl, inr, arith}
use Rattle.std.proofs.lemmas.Bool.{cases_lt}
use Rattle.model_sender.specs.Bits.{least, greatest}

-- ---- elements

pub Contains-more : (x : ℕ) (xs : List ℕ) (y : ℕ) → Contains xs y → Contains (x ∷ xs) y
Contains-more x xs y h = (suc h.0, (let lt : h.0 < length xs = h.1 in omega (arith, lt)), h.2)

pub Contains-cases : (x : ℕ) (xs : List ℕ) (y : ℕ) → Contains (x ∷ xs) y → (x ≡ y) ⊎ Contains xs y
Contains-cases x xs y h = at_place h.0 h.1 h.2
  where
    at_place : (k : ℕ) → k < length (x ∷ xs) → get_or (x ∷ xs) k y ≡ y → (x ≡ y) ⊎ Contains xs y
    at_place zero lt e = inl e
    at_place (suc k) lt e = inr (k, omega (arith, lt), e)

nothing : (y : ℕ) → Contains [] y → ⊥
nothing y h = let lt : h.0 < 0 = h.1 in omega (arith, lt)

-- what passes stands in the filtered list
filtered_in : (p : ℕ → Bool) (xs : List ℕ) (y : ℕ) → Contains xs y → p y ≡ true → Contains (filter p xs) y
filtered_in p [] y h pass = absurd (nothing y h)
filtered_in p (x ∷ xs) y h pass =
    elim (Contains-cases x xs y h) [
      | inl e ↦ subst (λ (b : Bool). Contains (cond b (x ∷ filter p xs) (filter p xs)) y) (sym (ap p e ∙ pass)) (0, omega arith, e)
      | inr later ↦ more (p x) (filtered_in p xs y later pass)
    ]
  where
    more : (b : Bool) → Contains (filter p xs) y → Contains (cond b (x ∷ filter p xs) (filter p xs)) y
    more true later = Contains-more x (filter p xs) y later
    more false later = later

-- and nothing else does
filtered_out : (p : ℕ → Bool) (xs : List ℕ) (y : ℕ) → Contains (filter p xs) y → Contains xs y × (p y ≡ true)
filtered_out p [] y h = absurd (nothing y h)
filtered_out p (x ∷ xs) y h = by_test (λ later. let rest = filtered_out p xs y later in (Contains-more x xs y rest.0, rest.1)) (p x) refl h
  where
    by_test : (Contains (filter p xs) y → Contains (x ∷ xs) y × (p y ≡ true)) → (b : Bool) → p x ≡ b → Contains (cond b (x ∷ filter p xs) (filter p xs)) y → Contains (x ∷ xs) y × (p y ≡ true)
    by_test out true pass h = elim (Contains-cases x (filter p xs) y h) [ inl e ↦ ((0, omega arith, e), sym (ap p e) ∙ pass) | inr rest ↦ out rest ]
    by_test out false pass h = out h

-- ---- folds

pub least-inside : (xs : List ℕ) (y : ℕ) → Contains xs y → Contains xs (least xs)
least-inside [] y h = absurd (nothing y h)
least-inside (x ∷ xs) y h = inside x xs
  where
    inside : (a : ℕ) (xs : List ℕ) → Contains (a ∷ xs) (fold min a xs)
    inside a [] = (0, omega arith, refl)
    inside a (x ∷ xs) =
        let r : ℕ = fold min (min a x) xs in
        elim (Contains-cases (min a x) xs r (inside (min a x) xs)) [
          | inl e ↦ elim (cases_lt a x) [
            | inl h ↦ (0, omega arith, (let m : a ≡ min a x = omega (arith, h) in m) ∙ e)
            | inr h ↦ (1, omega arith, (let m : x ≡ min a x = omega (arith, h) in m) ∙ e)
          ]
          | inr later ↦ Contains-more a (x ∷ xs) r (Contains-more x xs r later)
        ]

pub least-le : (xs : List ℕ) (y : ℕ) → Contains xs y → least xs ≤ y
least-le [] y h = absurd (nothing y h)
least-le (x ∷ xs) y h = elim (Contains-cases x xs y h) [ inl e ↦ omega (arith, (below x xs), e) | inr later ↦ within x xs y later ]
  where
    below : (a : ℕ) (xs : List ℕ) → fold min a xs ≤ a
    below a [] = omega arith
    below a (x ∷ xs) = omega (arith, below (min a x) xs)

    within : (a : ℕ) (xs : List ℕ) (y : ℕ) → Contains xs y → fold min a xs ≤ y
    within a [] y h = absurd (nothing y h)
    within a (x ∷ xs) y h = elim (Contains-cases x xs y h) [ inl e ↦ omega (arith, below (min a x) xs, e) | inr later ↦ within (min a x) xs y later ]

pub greatest-inside : (xs : List ℕ) (y : ℕ) → Contains xs y → Contains xs (greatest xs)
greatest-inside [] y h = absurd (nothing y h)
greatest-inside (x ∷ xs) y h = inside x xs
  where
    inside : (a : ℕ) (xs : List ℕ) → Contains (a ∷ xs) (fold max a xs)
    inside a [] = (0, omega arith, refl)
    inside a (x ∷ xs) =
        let r : ℕ = fold max (max a x) xs in
        elim (Contains-cases (max a x) xs r (inside (max a x) xs)) [
          | inl e ↦ elim (cases_lt a x) [
            | inl h ↦ (1, omega arith, (let m : x ≡ max a x = omega (arith, h) in m) ∙ e)
            | inr h ↦ (0, omega arith, (let m : a ≡ max a x = omega (arith, h) in m) ∙ e)
          ]
          | inr later ↦ Contains-more a (x ∷ xs) r (Contains-more x xs r later)
        ]

pub greatest-ge : (xs : List ℕ) (y : ℕ) → Contains xs y → y ≤ greatest xs
greatest-ge [] y h = absurd (nothing y h)
greatest-ge (x ∷ xs) y h = elim (Contains-cases x xs y h) [ inl e ↦ omega (arith, (above x xs), e) | inr later ↦ within x xs y later ]
  where
    above : (a : ℕ) (xs : List ℕ) → a ≤ fold max a xs
    above a [] = omega arith
    above a (x ∷ xs) = omega (arith, above (max a x) xs)

    within : (a : ℕ) (xs : List ℕ) (y : ℕ) → Contains xs y → y ≤ fold max a xs
    within a [] y h = absurd (nothing y h)
    within a (x ∷ xs) y h = elim (Contains-cases x xs y h) [ inl e ↦ omega (arith, above (max a x) xs, e) | inr later ↦ within (max a x) xs y later ]

-- ---- the extreme of those that pass

-- k is the least element that passes
pub record IsLeastPassing (p : ℕ → Bool) (xs : List ℕ) (k : ℕ) : Type 0 where
  pub inside : Contains xs k
  pub pass : p k ≡ true
  pub least : (y : ℕ) → Contains xs y → p y ≡ true → k ≤ y

-- k is the greatest element that passes
pub record IsGreatestPassing (p : ℕ → Bool) (xs : List ℕ) (k : ℕ) : Type 0 where
  pub inside : Contains xs k
  pub pass : p k ≡ true
  pub greatest : (y : ℕ) → Contains xs y → p y ≡ true → y ≤ k

pub least-passes : (p : ℕ → Bool) (xs : List ℕ) (y : ℕ) → Contains xs y → p y ≡ true → IsLeastPassing p xs (least (filter p xs))
least-passes p xs y h pass =
    let found = filtered_out p xs (least (filter p xs)) (least-inside (filter p xs) y (filtered_in p xs y h pass)) in
    record {
      inside = found.0;
      pass = found.1;
      least = λ z within ok. least-le (filter p xs) z (filtered_in p xs z within ok);
    }

pub greatest-passes : (p : ℕ → Bool) (xs : List ℕ) (y : ℕ) → Contains xs y → p y ≡ true → IsGreatestPassing p xs (greatest (filter p xs))
greatest-passes p xs y h pass =
    let found = filtered_out p xs (greatest (filter p xs)) (greatest-inside (filter p xs) y (filtered_in p xs y h pass)) in
    record {
      inside = found.0;
      pass = found.1;
      greatest = λ z within ok. greatest-ge (filter p xs) z (filtered_in p xs z within ok);
    }

-- there is one
pub least-one : (p : ℕ → Bool) (xs : List ℕ) (k : ℕ) → IsLeastPassing p xs k → k ≡ least (filter p xs)
least-one p xs k h =
    let other = least-passes p xs k h.inside h.pass in
    omega (arith, h.least (least (filter p xs)) other.inside other.pass, other.least k h.inside h.pass)

pub greatest-one : (p : ℕ → Bool) (xs : List ℕ) (k : ℕ) → IsGreatestPassing p xs k → k ≡ greatest (filter p xs)
greatest-one p xs k h =
    let other = greatest-passes p xs k h.inside h.pass in
    omega (arith, h.greatest (greatest (filter p xs)) other.inside other.pass, other.greatest k h.inside h.pass)
