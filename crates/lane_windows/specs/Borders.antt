-- The borders of windows.
use Rattle.std.specs.Prelude.{◌≡◌, ℕ, length}
use Rattle.lane_windows.specs.declared.borders.Borders.{Borders}

-- borders of so many windows
pub record HaveWindows (windows : ℕ) (b : Borders) : Type 0 where
  pub alpha_in : length b.alpha_in.items ≡ windows
  pub beta_in : length b.beta_in.items ≡ windows
  pub alpha_out : length b.alpha_out.items ≡ windows
  pub beta_out : length b.beta_out.items ≡ windows
