-- Tables of numbers by rows.
use Rattle.std.specs.Prelude.{ℕ, List, [], slice_index, slice_index_or}

-- the number at place i of row s
abbrev pub entry : List (List ℕ) → ℕ → ℕ → ℕ
entry table s i = slice_index (slice_index_or table s []) i
