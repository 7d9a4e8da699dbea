-- Cells: values with the places at which they are.
use Rattle.std.specs.Prelude.{◌≡◌, ℕ, zero, suc, ◌+◌, List, [], ◌∷◌, map}

-- the values, numbered from k on
abbrev pub numbered : {X : Type 0} → ℕ → List X → List (ℕ × X)
numbered k [] = []
numbered k (x ∷ xs) = (k, x) ∷ numbered (k + 1) xs

abbrev pub places : {X : Type 0} → List (ℕ × X) → List ℕ
places cells = map (λ c. c.0) cells

abbrev pub values : {X : Type 0} → List (ℕ × X) → List X
values cells = map (λ c. c.1) cells

-- the j-th cell is at the place n and has the value x
abbrev pub IsCell : {X : Type 0} → List (ℕ × X) → ℕ → ℕ → X → Type 0
IsCell [] j n x = ⊥
IsCell (c ∷ cs) zero n x = (c.0 ≡ n) × (c.1 ≡ x)
IsCell (c ∷ cs) (suc j) n x = IsCell cs j n x

-- the cells, of which the j-th has the value y
abbrev pub changed : {X : Type 0} → List (ℕ × X) → ℕ → X → List (ℕ × X)
changed [] j y = []
changed (c ∷ cs) zero y = (c.0, y) ∷ cs
changed (c ∷ cs) (suc j) y = c ∷ changed cs j y

-- ys has the elements of xs in some order
pub data Shuffled {X : Type 0} : List X → List X → Type 0 where
  nothing_left : Shuffled [] []
  under : (x : X) (xs ys : List X) → Shuffled xs ys → Shuffled (x ∷ xs) (x ∷ ys)
  turned : (x y : X) (xs : List X) → Shuffled (x ∷ y ∷ xs) (y ∷ x ∷ xs)
  then_on : (xs ys zs : List X) → Shuffled xs ys → Shuffled ys zs → Shuffled xs zs
