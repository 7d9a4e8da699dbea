use Rattle.std.proofs.Common.{◌≡◌, false, true, arith}
use Rattle.std.proofs.lemmas.Nat.Gcd.{mod-eq-zero_of_dvd}
use Rattle.window_decode.proofs.shape.Shape.new.Goals as goal
use Rattle.window_decode.proofs.shape.Shape.new.Goals.{then-k-windows-ne0-via-then-k-windows-ne0, then-k-windows-ne0-via-else-k-windows-ne0+then-windows-k}

no_such : false ≡ true → ⊥
no_such h = cc

pub returns-then-k-windows-ne0-clause-some : goal.returns-then-k-windows-ne0-clause-some
returns-then-k-windows-ne0-clause-some c = (
  λ h. absurd (no_such h),
  λ shape. elim c.then-k-windows-ne0.branch [
    | then-k-windows-ne0-via-then-k-windows-ne0 w ↦ absurd (w.if-k-windows-ne0.true (mod-eq-zero_of_dvd c.args.windows shape.divided))
    | then-k-windows-ne0-via-else-k-windows-ne0+then-windows-k w ↦ absurd (let a = w.if-windows-k.true in let b = shape.wide in omega (arith, a, b))
  ],
)
