-- The name of cells.
use Rattle.std.specs.Prelude.{ℕ}
use Rattle.std.specs.Ptr.{Ptr}

-- where their buffer begins, their number K, and the number M of their windows
pub record Name : Type 0 where
  pub start : Ptr
  pub count : ℕ
  pub windows : ℕ
