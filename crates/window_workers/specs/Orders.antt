-- The orders in which the halves take the cells.
use Rattle.std.specs.Prelude.{◌≡◌, ℕ, ◌%◌, ◌==◌, if◌then◌else◌, Option, Some, None}
use Rattle.model_sender.specs.declared.rows.Row.{Row}
use Rattle.model_sender.specs.Interleaver.{row_of}
use Rattle.qpp_table.specs.Qpp.{row_in}
use Rattle.cell_shares.specs.declared.order.Order.{Order}
use Rattle.cell_shares.specs.declared.order.Order.TheVariants.{Natural, Interleaved}

-- the row of an interleaved order
abbrev pub row_for : Order → Option Row
row_for Natural = None
row_for (Interleaved q) = Some (row_in q)

-- the natural order in even halves, and in odd ones the interleaver of size k
abbrev pub IsOrderIn : ℕ → ℕ → Order → Type 0
IsOrderIn k h order = row_for order ≡ (if h % 2 == 0 then None else Some (row_of k))
