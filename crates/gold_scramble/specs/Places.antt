-- Bits at places, and the bits of a number.
use Rattle.std.specs.Prelude.{ℕ, zero, suc, List, [], ◌∷◌, map, slice_index_or}
use Rattle.std.specs.List.{range_with_len}
use Rattle.std.specs.Int.{bit_at}
use Rattle.lte_bits.specs.Bits.{bit_of}
use Rattle.lte_bits.specs.declared.bit.Bit.{Bit}
use Rattle.lte_bits.specs.declared.bit.Bit.TheVariants.{Zero, One}

-- the sum modulo 2
abbrev pub plus : Bit → Bit → Bit
plus Zero b = b
plus One Zero = One
plus One One = Zero

-- the bit at a place, and Zero past the end
abbrev pub at : List Bit → ℕ → Bit
at bits n = slice_index_or bits n Zero

-- the bits of `count` places, from place n on
unfoldable pub places : (ℕ → Bit) → (n count : ℕ) → List Bit
places bit n count = map bit (range_with_len n count)

-- the bit of weight 2^i of a number
abbrev pub binary_digit : (z i : ℕ) → Bit
binary_digit z i = bit_of (bit_at z i)

-- the `count` lowest bits of a number, the lowest first
abbrev pub lowest_first : (count z : ℕ) → List Bit
lowest_first count z = places (binary_digit z) 0 count

-- the same, the highest first
unfoldable pub highest_first : (count z : ℕ) → List Bit
highest_first zero z = []
highest_first (suc i) z = binary_digit z i ∷ highest_first i z
