-- Bytes as bits and bits as bytes, the highest bit of a byte first.
use Rattle.std.specs.Prelude.{ℕ, ◌+◌, ◌*◌, ◌/◌, List, [], ◌∷◌, map, flat_map, length, take, drop}
use Rattle.std.specs.List.{range_with_len}
use Rattle.std.specs.Int.{bit_at}
use Rattle.lte_bits.specs.Bits.{bit_of, number}
use Rattle.lte_bits.specs.Lists.{resized}
use Rattle.lte_bits.specs.declared.bit.Bit.{Bit}
use Rattle.lte_bits.specs.declared.bit.Bit.TheVariants.{Zero}

-- the bits of weight 8 to 1
abbrev pub four_bits : ℕ → List Bit
four_bits n = map (λ i. bit_of (bit_at n i)) (3 ∷ 2 ∷ 1 ∷ 0 ∷ [])

-- the bits of weight 128 to 1
abbrev pub bits_of : ℕ → List Bit
bits_of byte = map (λ i. bit_of (bit_at byte i)) (7 ∷ 6 ∷ 5 ∷ 4 ∷ 3 ∷ 2 ∷ 1 ∷ 0 ∷ [])

abbrev pub unpacked : List ℕ → List Bit
unpacked bytes = flat_map bits_of bytes

-- byte i of the bits: those from place 8i on, and Zero past the end
abbrev pub byte_at : List Bit → ℕ → ℕ
byte_at bits i = number (resized (take 8 (drop (8 * i) bits)) 8 Zero)

-- as many bytes as the bits need
abbrev pub packed : List Bit → List ℕ
packed bits = map (byte_at bits) (range_with_len 0 ((length bits + 7) / 8))
