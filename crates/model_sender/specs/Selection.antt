-- The bits that a code block sends (36.212 5.1.4.1.2).
use Rattle.std.specs.Prelude.{ℕ, ◌+◌, ◌%◌, Bool, is_some, List, length, map, filter, slice_index}
use Rattle.std.specs.List.{range_with_len}
use Rattle.lte_bits.specs.declared.bit.Bit.{Bit}
use Rattle.lte_bits.specs.declared.bit.Bit.TheVariants as bit
use Rattle.lte_bits.specs.declared.bit.Cell.{Cell}
use Rattle.lte_bits.specs.declared.bit.Cell.TheVariants.{Zero, One, Null}
use Rattle.lte_bits.specs.declared.block.Streams.{Streams}
use Rattle.model_sender.specs.Segmentation.{Plan, size, fill}
use Rattle.model_sender.specs.CircularBuffer.{spot, w, Match, buffer_length, piece_length, start}

-- whether a place of the buffer of a block of k bits holds a bit
abbrev pub holds_bit : ℕ → ℕ → ℕ → Bool
holds_bit k fill n = is_some (spot k fill n)

-- the n places of a circle, from k on
abbrev pub rotation : ℕ → ℕ → List ℕ
rotation k n = map (λ i. (k + i) % n) (range_with_len 0 n)

-- V: those of the first n places of a buffer that hold a bit, from k on
abbrev pub bits_from : (ℕ → Bool) → ℕ → ℕ → List ℕ
bits_from holds k n = filter holds (rotation k n)

-- e of the places, over and over
abbrev pub repeated : List ℕ → ℕ → List ℕ
repeated places e = map (λ i. slice_index places (i % length places)) (range_with_len 0 e)

-- the places of block r's buffer that redundancy version rv sends
abbrev pub places : Plan → Match → ℕ → ℕ → List ℕ
places plan m r rv =
    let k = size plan r in
    let n = buffer_length m.limit plan.c k in
    repeated (bits_from (holds_bit k (fill plan r)) (start k n rv) n) (piece_length m plan.c r)

abbrev pub bit_of_cell : Cell → Bit
bit_of_cell Zero = bit.Zero
bit_of_cell One = bit.One
bit_of_cell Null = bit.Zero

-- what it sends of the streams of block r
abbrev pub sent : Plan → Match → Streams → ℕ → ℕ → List Bit
sent plan m s r rv = map (λ n. bit_of_cell (w (size plan r) (fill plan r) s n)) (places plan m r rv)
