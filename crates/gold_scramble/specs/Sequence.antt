-- The pseudo-random sequence (36.211 7.2).
use Rattle.std.specs.Prelude.{ℕ, zero, suc, ◌+◌, List, [], ◌∷◌, ◌++◌, replicate}
use Rattle.lte_bits.specs.declared.bit.Bit.{Bit}
use Rattle.lte_bits.specs.declared.bit.Bit.TheVariants.{Zero, One}
use Rattle.gold_scramble.specs.Places.{at, lowest_first, plus}

-- how a sequence goes on: x(n+31) out of x(n), x(n+1), x(n+2) and x(n+3)
abbrev pub Recurrence : Type 0
Recurrence = (a b c d : Bit) → Bit

-- x1(n+31) = x1(n+3) + x1(n)
abbrev pub x1_recurrence : Recurrence
x1_recurrence a b c d = plus d a

-- x2(n+31) = x2(n+3) + x2(n+2) + x2(n+1) + x2(n)
abbrev pub x2_recurrence : Recurrence
x2_recurrence a b c d = plus (plus (plus d c) b) a

-- what the recurrence gives of the places n to n + 3
abbrev pub given : Recurrence → (ℕ → Bit) → ℕ → Bit
given next x n = next (x n) (x (n + 1)) (x (n + 2)) (x (n + 3))

-- a sequence's first 31 places, continued by n places
unfoldable pub continued : Recurrence → List Bit → ℕ → List Bit
continued next first zero = first
continued next first (suc n) = continued next first n ++ given next (at (continued next first n)) n ∷ []

-- place n of the sequence with these first 31 places
unfoldable pub place : Recurrence → List Bit → ℕ → Bit
place next first n = at (continued next first n) n

-- x1(0) is 1, and x1(1) to x1(30) are 0
unfoldable pub x1_first : List Bit
x1_first = One ∷ replicate 30 Zero

-- x2(0) to x2(30) are the bits of c_init, the lowest first
unfoldable pub x2_first : (init : ℕ) → List Bit
x2_first init = lowest_first 31 init

abbrev pub x1 : (n : ℕ) → Bit
x1 n = place x1_recurrence x1_first n

abbrev pub x2 : (init n : ℕ) → Bit
x2 init n = place x2_recurrence (x2_first init) n

-- c(n) = x1(n + 1600) + x2(n + 1600)
abbrev pub c : (init n : ℕ) → Bit
c init n = plus (x1 (n + 1600)) (x2 init (n + 1600))
