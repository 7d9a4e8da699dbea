-- A row that is found in the table.
use Rattle.std.proofs.Common.{◌≡◌, ℕ, ◌==◌, find, Some, subst}
use Rattle.model_sender.specs.Rows.{IsRow}
use Rattle.model_sender.specs.declared.rows.Row.{Row}
use Rattle.model_sender.specs.declared.rows.TheConstants.{ROWS}
use Rattle.model_sender.proofs.RowLaws.{size-of_find, row-of_find, row-of_size}

pub found_row-kept : (k : ℕ) (row : Row) → find (λ r. r.0 == k) ROWS ≡ Some row → IsRow row
found_row-kept k row e = subst (λ (r : Row). IsRow r) (row-of_find k row e) (row-of_size k (size-of_find k row e))
