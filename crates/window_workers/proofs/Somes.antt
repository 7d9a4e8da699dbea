-- Elements of options.
use Rattle.std.proofs.Common.{◌≡◌, ap}
use mathlib.Core.Option.{Option, some, none}

abbrev held_or : {X : Type 0} → X → Option X → X
held_or d none = d
held_or d (some x) = x

pub some-same : {X : Type 0} {x y : X} → some x ≡ some y → x ≡ y
some-same {x = x} e = ap (held_or x) e
