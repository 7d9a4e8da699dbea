-- Soft cells: what the transmissions of a transport block add up to at each place of its blocks' streams.
use Rattle.std.specs.Prelude.{ℕ, ◌+◌, ◌==◌, ◌&&◌, Bool, false, ℤ, pos, ◌+ℤ◌, Option, None, Some, List, ◌++◌, map, filter, flat_map, fold, take, drop, replicate, sum_by}
use Rattle.std.specs.List.{range_with_len, zip}
use Rattle.lte_bits.specs.Softs.{clamped}
use Rattle.lte_bits.specs.declared.block.SoftStreams.{SoftStreams}
use Rattle.model_sender.specs.Segmentation.{Plan, size, fill}
use Rattle.model_sender.specs.CircularBuffer.{Match, piece_length, spot}
use Rattle.model_sender.specs.Selection.{places}
use Rattle.model_sender.specs.declared.spot.Spot.{Spot}

-- what came of one transmission: its rate matching, its redundancy version, and G values
pub record Reception : Type 0 where
  pub m : Match
  pub rv : ℕ
  pub values : List ℤ

abbrev pub reception : Match → ℕ → List ℤ → Reception
reception m rv values = record { m = m; rv = rv; values = values }

-- where the piece of block r begins in the codeword, after those of the blocks before it (36.212 5.1.5)
abbrev pub piece_start : Plan → Match → ℕ → ℕ
piece_start plan m r = sum_by (piece_length m plan.c) (range_with_len 0 r)

-- the values of block r
abbrev pub piece : Plan → Reception → ℕ → List ℤ
piece plan x r = take (piece_length x.m plan.c r) (drop (piece_start plan x.m r) x.values)

-- each of them beside the place of w from which its bit was taken
abbrev pub received : Plan → Reception → ℕ → List (ℕ × ℤ)
received plan x r = zip (places plan x.m r x.rv) (piece plan x r)

-- whether it is this bit of the streams
abbrev pub is_bit : Spot → Option Spot → Bool
is_bit s None = false
is_bit s (Some t) = (s.stream == t.stream) && (s.index == t.index)

-- whether place n of w has this bit, in a block of k bits whose first `fill` are fillers
abbrev pub has_bit : ℕ → ℕ → Spot → ℕ → Bool
has_bit k fill s n = is_bit s (spot k fill n)

-- the values at places that pass a test
abbrev pub values_where : (ℕ → Bool) → List (ℕ × ℤ) → List ℤ
values_where test pairs = map (λ p. p.1) (filter (λ p. test p.0) pairs)

-- the values of a reception that belong to a bit of block r's streams, in order of the codeword
abbrev pub values_of : Plan → Reception → ℕ → Spot → List ℤ
values_of plan x r s = values_where (has_bit (size plan r) (fill plan r) s) (received plan x r)

-- those of all receptions, in order
abbrev pub values_for : Plan → List Reception → ℕ → Spot → List ℤ
values_for plan xs r s = flat_map (λ x. values_of plan x r s) xs

-- the sum of a cell and a value, clamped at once
abbrev pub added : ℤ → ℤ → ℤ
added cell value = clamped 127 (cell +ℤ value)

-- the cell of a bit: from 0 on, each value that belongs to it is added
abbrev pub soft_cell : Plan → List Reception → ℕ → Spot → ℤ
soft_cell plan xs r s = fold added (pos 0) (values_for plan xs r s)

-- the cells of one stream of block r: 0, 1 or 2 for d0, d1 or d2
abbrev pub cells_of : Plan → List Reception → ℕ → ℕ → List ℤ
cells_of plan xs r number =
    map (λ i. soft_cell plan xs r (record { stream = number; index = i }))
    (range_with_len 0 (size plan r + 4))

-- values, the first n of which are v
abbrev pub begun_with : ℕ → ℤ → List ℤ → List ℤ
begun_with n v values = replicate n v ++ drop n values

-- what is decoded of block r: its cells, but for the fillers, whose bits are known to be 0 in d0, and of which
-- nothing is known in d1
unfoldable pub soft_streams : Plan → List Reception → ℕ → SoftStreams
soft_streams plan xs r = record {
  fill = fill plan r;
  d0 = begun_with (fill plan r) (pos 127) (cells_of plan xs r 0);
  d1 = begun_with (fill plan r) (pos 0) (cells_of plan xs r 1);
  d2 = cells_of plan xs r 2;
}
