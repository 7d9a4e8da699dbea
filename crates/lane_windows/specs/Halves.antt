-- Half an iteration whose windows run in lock step.
use Rattle.std.specs.Prelude.{◌≡◌, ℕ, ℤ, ◌<◌, List, length, map}
use Rattle.lte_bits.specs.declared.block.SoftStreams.{SoftStreams}
use Rattle.model_receiver.specs.Borders.{Border}
use Rattle.model_receiver.specs.Windows.{Extrinsic, new_cells, forward_left, backward_left}
use Rattle.model_receiver.specs.HalfIteration.{Shape, window_width, positions, order, systematic_at, parity_at}
use Rattle.half_iteration.specs.Runs.{window_from}
use Rattle.window_rows.specs.Rows.{column, AreWithin}
use Rattle.lock_step.specs.Lanes.{border_at}
use Rattle.lane_windows.specs.Lanes.{cells_of_window}

-- the soft values of half h by rows
pub record AreRowsOf (n : ℕ) (soft : SoftStreams) (shape : Shape) (h : ℕ) (sys par : List (List ℤ)) : Type 0 where
  pub systematic_long : length sys ≡ window_width shape
  pub parity_long : length par ≡ window_width shape
  pub systematic : (t : ℕ) → t < n → column t sys ≡ map (systematic_at soft shape.k h) (positions shape t)
  pub parity : (t : ℕ) → t < n → column t par ≡ map (parity_at soft h) (positions shape t)
  pub systematic_soft : AreWithin n 127 sys
  pub parity_soft : AreWithin n 127 par

-- the windows of half h have run between their borders: their new cells and the borders that they leave
pub record HaveRunHalf
    (n : ℕ) (soft : SoftStreams) (shape : Shape) (h : ℕ) (alpha_in beta_in : List Border)
    (old new : List Extrinsic) (alpha_out beta_out : List Border) : Type 0 where
  pub long : length new ≡ length old
  pub cells : (t : ℕ) → t < n → cells_of_window (window_width shape) (order shape.k h) new t
      ≡ new_cells (window_from soft shape h t (border_at alpha_in t) (border_at beta_in t) old)
  pub forward : (t : ℕ) → t < n
      → border_at alpha_out t ≡ forward_left (window_from soft shape h t (border_at alpha_in t) (border_at beta_in t) old)
  pub backward : (t : ℕ) → t < n
      → border_at beta_out t ≡ backward_left (window_from soft shape h t (border_at alpha_in t) (border_at beta_in t) old)
