-- Bits scrambled (36.211 5.3.1, 6.3.1), and soft values turned back.
use Rattle.std.specs.Prelude.{ℕ, ℤ, pos, neg_ℤ, List, length, map, slice_index_or}
use Rattle.std.specs.List.{range_with_len}
use Rattle.lte_bits.specs.declared.bit.Bit.{Bit}
use Rattle.lte_bits.specs.declared.bit.Bit.TheVariants.{Zero, One}
use Rattle.gold_scramble.specs.Places.{at, plus}
use Rattle.gold_scramble.specs.Sequence.{c}

-- each bit and the sequence's bit at its place added
unfoldable pub added : (ℕ → Bit) → List Bit → List Bit
added s bits = map (λ i. plus (at bits i) (s i)) (range_with_len 0 (length bits))

-- a soft value of a bit, as one of the bit before the sequence's was added
abbrev pub turned_value : Bit → ℤ → ℤ
turned_value Zero v = v
turned_value One v = neg_ℤ v

-- each soft value turned by the sequence's bit at its place
unfoldable pub turned_by : (ℕ → Bit) → List ℤ → List ℤ
turned_by s softs =
    map (λ i. turned_value (s i) (slice_index_or softs i (pos 0))) (range_with_len 0 (length softs))

-- a transmission's bits, scrambled
abbrev pub scrambled : (init : ℕ) → List Bit → List Bit
scrambled init bits = added (c init) bits

-- a transmission's soft values, turned
abbrev pub turned : (init : ℕ) → List ℤ → List ℤ
turned init softs = turned_by (c init) softs
