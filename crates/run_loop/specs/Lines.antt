-- Lines of a report.
use Rattle.std.specs.Prelude.{ℕ, List, [], ◌∷◌, ◌++◌, codes, decimal}

-- the end of a line
abbrev pub line_end : List ℕ
line_end = 10 ∷ []

-- `end blocks N`
abbrev pub blocks_line : ℕ → List ℕ
blocks_line count = codes "end blocks " ++ decimal count ++ line_end
