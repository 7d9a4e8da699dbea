-- Windows in lock step, by rows of numbers.
use Rattle.std.specs.Prelude.{◌≡◌, ℕ, ℤ, pos, int_lt, List, [], length, slice_index_or}
use Rattle.std.specs.Simd.Lanes.{zip2}
use Rattle.model_receiver.specs.Borders.{Border}
use Rattle.model_receiver.specs.Paths.{Window}
use Rattle.model_receiver.specs.Windows.{Extrinsic}
use Rattle.window_rows.specs.Rows.{column, AreWithin}
use Rattle.lock_step.specs.declared.inputs.BordersIn.{BordersIn}
use Rattle.lock_step.specs.declared.inputs.SoftRows.{SoftRows}

-- the border of window t
abbrev pub border_at : List Border → ℕ → Border
border_at borders t = slice_index_or borders t []

-- the window of lane t between two borders
abbrev pub lane_window : ℕ → (start end : Border) → (sys par cells : List (List ℤ)) → Window
lane_window t start end sys par cells = record {
  start = start;
  end = end;
  sys = column t sys;
  par = column t par;
  cells = column t cells;
}

-- window t of those that run in lock step
abbrev pub window_at : {n : ℕ} → ℕ → BordersIn → SoftRows n → (cells : List (List ℤ)) → Window
window_at t borders soft cells =
    lane_window t (border_at borders.alpha.now t) (border_at borders.beta.now t) soft.systematic.now soft.parity.now cells

-- cells of these values, where the decided bit is 1 exactly where the sum is negative
abbrev pub decided_cells : (values sums : List ℤ) → List Extrinsic
decided_cells values sums = zip2 (λ v s. record { value = v; one = int_lt s (pos 0) }) values sums

-- the borders of n windows
pub record AreBordersOf (n : ℕ) (borders : BordersIn) : Type 0 where
  pub alpha : length borders.alpha.now ≡ n
  pub beta : length borders.beta.now ≡ n

-- the soft values of n windows that are w wide
pub record AreSoftRows {n : ℕ} (w : ℕ) (soft : SoftRows n) : Type 0 where
  pub systematic_long : length soft.systematic.now ≡ w
  pub parity_long : length soft.parity.now ≡ w
  pub systematic : AreWithin n 127 soft.systematic.now
  pub parity : AreWithin n 127 soft.parity.now

-- values and cells of n windows
pub record AreSoft (n : ℕ) (sys par cells : List (List ℤ)) : Type 0 where
  pub systematic : AreWithin n 127 sys
  pub parity : AreWithin n 127 par
  pub extrinsic : AreWithin n 511 cells
