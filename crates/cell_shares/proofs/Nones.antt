-- `None` is no `Some`.
use Rattle.std.proofs.Common.{◌≡◌, ℕ, ap, arith}
use Rattle.std.specs.Prelude.{Option, Some, None}

abbrev count : {X : Type 0} → Option X → ℕ
count None = 0
count (Some x) = 1

pub none_some : {X : Type 0} (x : X) → None ≡ Some x → ⊥
none_some x e = let no : 0 ≡ 1 = ap count e in absurd (omega (arith, no))

abbrev value : {X : Type 0} → X → Option X → X
value d None = d
value d (Some x) = x

pub some_same : {X : Type 0} (x y : X) → Some x ≡ Some y → x ≡ y
some_same x y e = ap (value x) e
