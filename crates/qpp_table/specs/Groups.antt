-- The addresses of a size, and the sizes of some rows of the table, 24 at a time (36.212, table 5.1.3-3).
use Rattle.std.specs.Prelude.{ℕ, Bool, false, true, cond, ◌==◌, List, [], ◌∷◌, map, take, drop}
use Rattle.std.specs.List.{range_with_len}
use Rattle.model_sender.specs.Interleaver.{place}
use Rattle.model_sender.specs.declared.rows.Row.{Row}
use Rattle.model_sender.specs.declared.rows.TheConstants.{ROWS}

-- the places from which the places of a block of k bits take their bits
unfoldable pub addresses_of : ℕ → List ℕ
addresses_of k = map (place k) (range_with_len 0 k)

-- 24 rows of the table
abbrev pub rows_from : ℕ → List Row
rows_from n = take 24 (drop n ROWS)

-- whether one of the rows has the size k
unfoldable pub is_among : List Row → ℕ → Bool
is_among [] k = false
is_among (r ∷ rows) k = cond (k == r.0) true (is_among rows k)
