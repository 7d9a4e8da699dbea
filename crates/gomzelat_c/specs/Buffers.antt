-- What a caller's buffer has after a call.
use Rattle.std.specs.Prelude.{List, ◌++◌, length, drop}

-- values first, and after them what was there
abbrev pub with_front : {X : Type 0} → List X → List X → List X
with_front values buffer = values ++ drop (length values) buffer
