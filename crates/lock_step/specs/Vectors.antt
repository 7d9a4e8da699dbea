-- Vectors of one number for each window, and the eight vectors of a position's metrics.
use Rattle.std.specs.Prelude.{◌≡◌, ◌<◌, ℕ, ℤ, pos, ◌-ℤ◌, int_lt, List, [], length, slice_index_or}
use Rattle.lte_bits.specs.Softs.{IsWithin}
use Rattle.model_receiver.specs.Borders.{at}
use Rattle.lte_bits.specs.declared.bit.Bit.TheVariants.{Zero, One}
use Rattle.window_decode.specs.Lanes.{IsRelative}
use Rattle.window_decode.specs.Recursions.{through}
use Rattle.model_receiver.specs.Borders.{IsBorder}
use Rattle.model_receiver.specs.Paths.{Gain, gain}
use Rattle.model_receiver.specs.Windows.{Extrinsic}
use Rattle.window_decode.specs.Metrics.{IsForwardRow}
use Rattle.window_rows.specs.Rows.{row_at, column}
use Rattle.lock_step.specs.Lanes.{lane_window}

-- the numbers of n lanes are from -b to b
abbrev pub IsSmall : (n b : ℕ) → List ℤ → Type 0
IsSmall n b lanes = (t : ℕ) → t < n → IsWithin b (at lanes t)

-- a number from -b to b in each of n lanes
pub record IsVector (n b : ℕ) (lanes : List ℤ) : Type 0 where
  pub long : length lanes ≡ n
  pub bounded : (t : ℕ) → IsWithin b (at lanes t)

-- the number f t in each lane t of n, from -b to b
pub record AreLanes (n b : ℕ) (f : ℕ → ℤ) (row : List ℤ) : Type 0 where
  pub vector : IsVector n b row
  pub lanes : (t : ℕ) → t < n → at row t ≡ f t

-- eight vectors of n lanes, one for each state
pub record AreMetrics (n : ℕ) (m : List (List ℤ)) : Type 0 where
  pub eight : length m ≡ 8
  pub long : (k : ℕ) → k < 8 → length (row_at m k) ≡ n

-- in each lane the metrics are relative to that of state 0
pub record AreRelative (n : ℕ) (m : List (List ℤ)) : Type 0 where
  pub shape : AreMetrics n m
  pub relative : (t : ℕ) → t < n → IsRelative (column t m)

-- how much better 0 is than 1 in lane t, where a parity bit 0 earns p
abbrev pub better_by : (before after : List (List ℤ)) → (p : ℤ) → (t : ℕ) → ℤ
better_by before after p t =
    through (column t before) (column t after) p Zero -ℤ through (column t before) (column t after) p One

-- in each lane the metrics are a border
pub record AreBorders (n : ℕ) (m : List (List ℤ)) : Type 0 where
  pub shape : AreMetrics n m
  pub border : (t : ℕ) → t < n → IsBorder (column t m)

-- what steps earn in lane t
abbrev pub lane_gain : ℕ → (sys par cells : List (List ℤ)) → Gain
lane_gain t sys par cells = gain (lane_window t [] [] sys par cells)

-- the metrics of a position in a list of them
abbrev pub metrics_at : List (List (List ℤ)) → ℕ → List (List ℤ)
metrics_at rows j = slice_index_or rows j []

-- in lane t the first rows are the forward metrics before their positions, from a start border
abbrev pub AreForwardRows : ℕ → (start : List ℤ) → (sys par cells : List (List ℤ)) → List (List (List ℤ)) → ℕ → Type 0
AreForwardRows t start sys par cells rows width =
    (j : ℕ) → j < width → IsForwardRow start (lane_gain t sys par cells) j (column t (metrics_at rows j))

-- the cell in lane t of row j
abbrev pub cell_of : ℕ → (cells sums : List (List ℤ)) → ℕ → Extrinsic
cell_of t cells sums j = record { value = at (row_at cells j) t; one = int_lt (at (row_at sums j) t) (pos 0) }
