-- Windows whose cells are in banks.
use Rattle.std.specs.Prelude.{◌≡◌, ℕ, ◌*◌, ◌<◌, ◌≤◌, ℤ, List, length, map}
use Rattle.std.specs.List.{range_with_len}
use Rattle.model_receiver.specs.Borders.{Border}
use Rattle.model_receiver.specs.Paths.{Window}
use Rattle.model_receiver.specs.Windows.{Extrinsic, window_between, cell_at, new_cells, forward_left, backward_left}
use Rattle.window_rows.specs.Rows.{column, values_of_window}
use Rattle.lane_banks.specs.declared.permutations.LanePermutations.{LanePermutations}
use Rattle.lane_banks.specs.Permutations.{IsTable, AreApart}
use Rattle.lock_step.specs.declared.inputs.BordersIn.{BordersIn}
use Rattle.lock_step.specs.declared.inputs.SoftRows.{SoftRows}
use Rattle.lock_step.specs.Lanes.{border_at}

-- the cells of window t, of the cells by place
abbrev pub cells_of_window : ℕ → (ℕ → ℕ) → List Extrinsic → ℕ → List Extrinsic
cells_of_window w place cells t = map (λ i. cell_at cells (place i)) (range_with_len (t * w) w)

-- window t of windows that are w wide
abbrev pub window_of : ℕ → (ℕ → ℕ) → (alpha_in beta_in : List Border) → (sys par : List ℤ) → List Extrinsic → ℕ → Window
window_of w place alpha_in beta_in sys par cells t =
    window_between (border_at alpha_in t) (border_at beta_in t) (values_of_window w sys t) (values_of_window w par t)
    (cells_of_window w place cells t)

-- the same, of soft values by rows
abbrev pub window_of_rows : {n : ℕ} → ℕ → (ℕ → ℕ) → BordersIn → SoftRows n → List Extrinsic → ℕ → Window
window_of_rows w place borders soft cells t =
    window_between (border_at borders.alpha.now t) (border_at borders.beta.now t)
    (column t soft.systematic.now) (column t soft.parity.now) (cells_of_window w place cells t)

-- n windows w wide, whose positions are at these places, have run: their new cells and the borders that they
-- leave
pub record HaveRun
    {n : ℕ} (w : ℕ) (place : ℕ → ℕ) (borders : BordersIn) (soft : SoftRows n)
    (old new : List Extrinsic) (alpha_out beta_out : List Border) : Type 0 where
  pub long : length new ≡ length old
  pub cells : (t : ℕ) → t < n
      → cells_of_window w place new t ≡ new_cells (window_of_rows w place borders soft old t)
  pub forward : (t : ℕ) → t < n → border_at alpha_out t ≡ forward_left (window_of_rows w place borders soft old t)
  pub backward : (t : ℕ) → t < n → border_at beta_out t ≡ backward_left (window_of_rows w place borders soft old t)

-- the permutations of w steps lead n windows to different places
pub record LeadApart {n : ℕ} (w : ℕ) (c : LanePermutations n) : Type 0 where
  pub rows : w ≤ length c.rows.items
  pub banks : w ≤ length c.banks.items
  pub table : (place : ℕ → ℕ) × IsTable n w place c.rows.items c.banks.items × AreApart n w place
