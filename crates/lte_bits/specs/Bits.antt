-- Bits as binary digits, and as cells.
use Rattle.std.specs.Prelude.{ℕ, zero, suc, ◌+◌, ◌*◌, ◌^◌, List, [], ◌∷◌, length}
use Rattle.lte_bits.specs.declared.bit.Bit.{Bit}
use Rattle.lte_bits.specs.declared.bit.Bit.TheVariants.{Zero, One}
use Rattle.lte_bits.specs.declared.bit.Cell.{Cell}
use Rattle.lte_bits.specs.declared.bit.Cell.TheVariants as cell

abbrev pub digit : Bit → ℕ
digit Zero = 0
digit One = 1

abbrev pub cell_of : Bit → Cell
cell_of Zero = cell.Zero
cell_of One = cell.One

abbrev pub bit_of : ℕ → Bit
bit_of zero = Zero
bit_of (suc _) = One

-- the number with these binary digits, the first bit the highest
abbrev pub number : List Bit → ℕ
number [] = 0
number (b ∷ bs) = digit b * 2 ^ length bs + number bs
