-- Rows of numbers, in which lane t is window t's.
use Rattle.std.specs.Prelude.{◌≡◌, ◌*◌, ◌<◌, ◌⊎◌, ℕ, ℤ, List, [], length, map, slice_index_or}
use Rattle.std.specs.List.{range_with_len}
use Rattle.lte_bits.specs.Softs.{IsWithin}
use Rattle.model_receiver.specs.Borders.{at}

-- the numbers of windows that run in lock step
abbrev pub IsLaneCount : ℕ → Type 0
IsLaneCount n = (n ≡ 8) ⊎ (n ≡ 16) ⊎ (n ≡ 32)

-- the row at a place
abbrev pub row_at : List (List ℤ) → ℕ → List ℤ
row_at rows j = slice_index_or rows j []

-- the number in a lane of a row
abbrev pub number_in : List (List ℤ) → ℕ → ℕ → ℤ
number_in rows r b = at (row_at rows r) b

-- the numbers of lane t, row by row
abbrev pub column : ℕ → List (List ℤ) → List ℤ
column t rows = map (λ (row : List ℤ). at row t) rows

-- every number of rows of n lanes is from -b to b
abbrev pub AreWithin : (n b : ℕ) → List (List ℤ) → Type 0
AreWithin n b rows = (j t : ℕ) → j < length rows → t < n → IsWithin b (number_in rows j t)

-- the values of window t, of values by position
abbrev pub values_of_window : ℕ → List ℤ → ℕ → List ℤ
values_of_window w values t = map (at values) (range_with_len (t * w) w)
