-- The 32-bit FNV-1a checksum of cells.
use Rattle.std.specs.Prelude.{ℕ, ◌*◌, ◌%◌, ◌^◌, bit_xor}
use Rattle.lte_bits.specs.declared.bit.Cell.{Cell}
use Rattle.lte_bits.specs.declared.bit.Cell.TheVariants.{Zero, One, Null}

abbrev pub basis : ℕ
basis = 2166136261

abbrev pub digit : Cell → ℕ
digit Zero = 0
digit One = 1
digit Null = 2

abbrev pub mixed : ℕ → Cell → ℕ
mixed sum cell = bit_xor sum (digit cell) * 16777619 % 2 ^ 32
