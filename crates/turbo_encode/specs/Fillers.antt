-- Cells of fillers.
use Rattle.std.specs.Prelude.{ℕ, List, length, map, nat_lt, if◌then◌else◌, slice_index_or}
use Rattle.std.specs.List.{range_with_len}
use Rattle.lte_bits.specs.declared.bit.Cell.{Cell}
use Rattle.lte_bits.specs.declared.bit.Cell.TheVariants.{Null}

-- the cells, with NULL at the first places
abbrev pub nulls_first : ℕ → List Cell → List Cell
nulls_first fill cells = map (λ i. if nat_lt i fill then Null else slice_index_or cells i Null) (range_with_len 0 (length cells))
