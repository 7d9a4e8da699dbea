-- Whole numbers that are small.
use Rattle.std.specs.Prelude.{ℕ, ℤ, pos, neg_ℤ, ◌≤ℤ◌}
use Rattle.std.specs.Int.{int_min, int_max}

-- z is from -n to n
abbrev pub IsWithin : ℕ → ℤ → Type 0
IsWithin n z = (neg_ℤ (pos n) ≤ℤ z) × (z ≤ℤ pos n)

-- the number from -n to n that is nearest to z
abbrev pub clamped : ℕ → ℤ → ℤ
clamped n z = int_max (neg_ℤ (pos n)) (int_min (pos n) z)
