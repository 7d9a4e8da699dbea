-- The cells of all windows at one step, and the banks in which they stand.
use Rattle.std.specs.Prelude.{◌≡◌, ℕ, ◌+◌, ◌*◌, ◌/◌, ◌%◌, ◌<◌, List, []}
use Rattle.std.specs.Prelude.{length, map, slice_index, slice_index_or}
use Rattle.std.specs.List.{range_with_len}
use Rattle.cell_shares.specs.declared.order.Order.{Order}
use Rattle.cell_shares.specs.Orders.{place_in}

-- the place of window t at step j, where windows are w wide
abbrev pub place_of : (ℕ → ℕ) → (w t j : ℕ) → ℕ
place_of place w t j = place (t * w + j)

-- the row in which the cells of step j stand
abbrev pub row_of_step : Order → (w j : ℕ) → ℕ
row_of_step order w j = place_in order j % w

-- the bank of each of n windows at step j
abbrev pub crossbar_of : (n : ℕ) → Order → (w j : ℕ) → List ℕ
crossbar_of n order w j = map (λ t. place_of (place_in order) w t j / w) (range_with_len 0 n)

-- a list of n numbers that has each number below n once
pub record HasEachOnce (n : ℕ) (banks : List ℕ) : Type 0 where
  pub long : length banks ≡ n
  pub below : (t : ℕ) → t < n → slice_index banks t < n
  pub apart : (t u : ℕ) → t < n → u < n → slice_index banks t ≡ slice_index banks u → t ≡ u
  pub reached : (b : ℕ) → b < n → (t : ℕ) × (t < n) × (slice_index banks t ≡ b)

-- numbers below n of n lanes, no two alike
pub record AreDistinct (n : ℕ) (banks : List ℕ) : Type 0 where
  pub below : (t : ℕ) → t < n → slice_index banks t < n
  pub apart : (t u : ℕ) → t < n → u < n → slice_index banks t ≡ slice_index banks u → t ≡ u

-- the window of each bank, where the windows have different banks
pub record IsInverse (n : ℕ) (banks windows : List ℕ) : Type 0 where
  pub below : (b : ℕ) → b < n → slice_index windows b < n
  pub window : AreDistinct n banks → (t : ℕ) → t < n → slice_index windows (slice_index banks t) ≡ t

-- the same at each step
abbrev pub AreInverse : (n : ℕ) → (banks windows : List (List ℕ)) → Type 0
AreInverse n banks windows = (j : ℕ) → j < length banks
    → IsInverse n (slice_index_or banks j []) (slice_index_or windows j [])

-- the bank of window t at step j
abbrev pub bank_at : List (List ℕ) → ℕ → ℕ → ℕ
bank_at banks j t = slice_index (slice_index_or banks j []) t

-- the row and the banks of each of w steps, where n windows w wide have their positions at these places
pub record IsTable (n w : ℕ) (place : ℕ → ℕ) (rows : List ℕ) (banks : List (List ℕ)) : Type 0 where
  pub row : (j : ℕ) → j < w → slice_index rows j < w
  pub bank : (j t : ℕ) → j < w → t < n → slice_index (slice_index_or banks j []) t < n
  pub stands : (j t : ℕ) → j < w → t < n
      → slice_index (slice_index_or banks j []) t * w + slice_index rows j ≡ place_of place w t j

-- different positions of n windows w wide are at different places
abbrev pub AreApart : (n w : ℕ) → (ℕ → ℕ) → Type 0
AreApart n w place = (i j : ℕ) → i < n * w → j < n * w → place i ≡ place j → i ≡ j
