-- How often a number is in lists.
use Rattle.std.specs.Prelude.{◌≡◌, ℕ, ◌+◌, ◌≤◌, List, [], ◌∷◌, if◌then◌else◌, ◌==◌, ltb}

abbrev pub times : ℕ → List ℕ → ℕ
times x [] = 0
times x (y ∷ ys) = (if y == x then 1 else 0) + times x ys

-- the sum over a list
abbrev pub total : {A : Type 0} → (A → ℕ) → List A → ℕ
total f [] = 0
total f (x ∷ xs) = f x + total f xs

-- each number below the bound once, and no other
abbrev pub once_below : ℕ → ℕ → ℕ
once_below x bound = if ltb x bound then 1 else 0

-- no number from the bound on
abbrev pub AllBelow : ℕ → List ℕ → Type 0
AllBelow bound xs = (x : ℕ) → bound ≤ x → times x xs ≡ 0

-- no number twice
abbrev pub NoneTwice : List ℕ → Type 0
NoneTwice xs = (x : ℕ) → times x xs ≤ 1
