-- A generator of the sequence: 31 places of x1 and of x2, from which all later ones follow.
use Rattle.std.specs.Prelude.{◌≡◌, ℕ, List, length}
use Rattle.lte_bits.specs.declared.bit.Bit.{Bit}
use Rattle.gold_scramble.specs.Places.{places, plus}
use Rattle.gold_scramble.specs.Sequence.{place, x1, x1_recurrence, x2, x2_recurrence}

pub record Registers : Type 0 where
  pub x1 : List Bit
  pub x2 : List Bit

-- both have 31 places
pub record AreWhole (g : Registers) : Type 0 where
  pub first : length g.x1 ≡ 31
  pub second : length g.x2 ≡ 31

-- bit n of those that are still to come: the sum of the two lists, continued by their recurrences
abbrev pub coming : Registers → ℕ → Bit
coming g n = plus (place x1_recurrence g.x1 n) (place x2_recurrence g.x2 n)

-- the registers n places on
abbrev pub moved : Registers → ℕ → Registers
moved g n = record {
  x1 = places (place x1_recurrence g.x1) n 31;
  x2 = places (place x2_recurrence g.x2) n 31;
}

-- the registers where c begins
abbrev pub started : (init : ℕ) → Registers
started init = record { x1 = places x1 1600 31; x2 = places (x2 init) 1600 31 }
