-- Cells in banks: row r has in bank b the cell of place b*W + r.
use Rattle.std.specs.Prelude.{◌≡◌, ℕ, ◌*◌, ◌/◌, ◌%◌, ◌≤◌, ℤ, pos, int_lt, List, length, map, if◌then◌else◌}
use Rattle.std.specs.List.{range_with_len}
use Rattle.lte_bits.specs.declared.bit.Bit.{Bit}
use Rattle.lte_bits.specs.declared.bit.Bit.TheVariants.{Zero, One}
use Rattle.model_receiver.specs.Windows.{Extrinsic}
use Rattle.window_rows.specs.Rows.{IsLaneCount, AreWithin, number_in}

-- the cell of a value, decided by a sum: 1 exactly where the sum is negative
abbrev pub cell_of : ℤ → ℤ → Extrinsic
cell_of value sum = record { value = value; one = int_lt sum (pos 0) }

-- the cell in a bank of a row
abbrev pub cell_in : (values sums : List (List ℤ)) → ℕ → ℕ → Extrinsic
cell_in values sums r b = cell_of (number_in values r b) (number_in sums r b)

-- the cells of n banks by place, where there are w rows
abbrev pub cells_by_place : ℕ → ℕ → (values sums : List (List ℤ)) → List Extrinsic
cells_by_place n w values sums = map (λ i. cell_in values sums (i % w) (i / w)) (range_with_len 0 (n * w))

-- what banks keep
pub record AreBanks (n : ℕ) (values sums : List (List ℤ)) : Type 0 where
  pub lanes : IsLaneCount n
  pub sums_long : length sums ≡ length values
  pub least : 8 ≤ length values
  pub most : length values ≤ 768
  pub within : AreWithin n 511 values

-- the bit that a sum decides
abbrev pub bit_of : ℤ → Bit
bit_of sum = if int_lt sum (pos 0) then One else Zero
