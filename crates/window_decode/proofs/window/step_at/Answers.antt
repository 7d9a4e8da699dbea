use Rattle.std.proofs.Common.{◌≡◌, ℤ, ◌+ℤ◌, ap, ◌∙◌, to_z, of_z, w16, arith}
use Rattle.std.proofs.lemmas.Int.{ints}
use Rattle.lte_bits.specs.Softs.{IsWithin}
use Rattle.model_receiver.specs.Windows.{Extrinsic}
use Rattle.window_decode.proofs.window.step_at.Goals as goal

sum : (s x u v : ℤ) → s ≡ u → x ≡ v → IsWithin 127 s → IsWithin 511 x → to_z w16 (of_z w16 (to_z w16 (of_z w16 s) +ℤ to_z w16 (of_z w16 x))) ≡ u +ℤ v
sum s x u v e f h k = omega (arith, ints)

pub returns-clause-input : goal.returns-clause-input
returns-clause-input g c =
    sum c.sys.result c.cell.inside.value _ _ c.sys.ensures.value (ap (λ (e : Extrinsic). e.value) (c.cell.view_is ∙ c.cell-cell.ensures)) c.sys.ensures.range c.cell.invariant
