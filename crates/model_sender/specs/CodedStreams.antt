-- The three coded streams of a code block (36.212 5.1.3.2).
use Rattle.std.specs.Prelude.{ℕ, ◌+◌, List, [], ◌∷◌, ◌++◌, length, map, nat_lt, if◌then◌else◌}
use Rattle.std.specs.List.{range_with_len}
use Rattle.lte_bits.specs.Bits.{cell_of}
use Rattle.lte_bits.specs.declared.bit.Bit.{Bit}
use Rattle.lte_bits.specs.declared.bit.Cell.{Cell}
use Rattle.lte_bits.specs.declared.bit.Cell.TheVariants.{Null}
use Rattle.lte_bits.specs.declared.block.Block.{Block}
use Rattle.lte_bits.specs.declared.block.Streams.{Streams}
use Rattle.model_sender.specs.Bits.{at}
use Rattle.model_sender.specs.Interleaver.{place}
use Rattle.model_sender.specs.ConstituentCoder.{values, parities, tail_x, tail_z}

abbrev pub cells_of : List Bit → List Cell
cells_of bits = map cell_of bits

-- c'(i) = c(Pi(i))
abbrev pub interleaved : List Bit → List Bit
interleaved c = map (λ i. at c (place (length c) i)) (range_with_len 0 (length c))

-- the cell of a bit at place i, NULL at a filler
abbrev pub filled_cell : ℕ → ℕ → Bit → Cell
filled_cell fill i bit = if nat_lt i fill then Null else cell_of bit

-- the cells of bits, NULL at the fillers
abbrev pub null_filled : ℕ → List Bit → List Cell
null_filled fill bits = map (λ i. filled_cell fill i (at bits i)) (range_with_len 0 (length bits))

-- the tails of the two coders, of inner lists a and b (5.1.3.2.2)
abbrev pub tail_0 : ℕ → List Bit → List Bit → List Bit
tail_0 k a b = tail_x a k ∷ tail_z a (k + 1) ∷ tail_x b k ∷ tail_z b (k + 1) ∷ []

abbrev pub tail_1 : ℕ → List Bit → List Bit → List Bit
tail_1 k a b = tail_z a k ∷ tail_x a (k + 2) ∷ tail_z b k ∷ tail_x b (k + 2) ∷ []

abbrev pub tail_2 : ℕ → List Bit → List Bit → List Bit
tail_2 k a b = tail_x a (k + 1) ∷ tail_z a (k + 2) ∷ tail_x b (k + 1) ∷ tail_z b (k + 2) ∷ []

-- the streams of a block c and the interleaved block d
abbrev pub coded : ℕ → List Bit → List Bit → Streams
coded fill c d = record {
  d0 = null_filled fill c ++ cells_of (tail_0 (length c) (values c) (values d));
  d1 = null_filled fill (parities c) ++ cells_of (tail_1 (length c) (values c) (values d));
  d2 = cells_of (parities d) ++ cells_of (tail_2 (length c) (values c) (values d));
}

abbrev pub streams : Block → Streams
streams block = coded block.fill block.bits (interleaved block.bits)
