use Rattle.std.proofs.Common.{◌≡◌, ℤ, pos, ◌-ℤ◌, ◌≤ℤ◌, FitsSigned, to_z, of_z, w16, w64, arith}
use Rattle.std.proofs.lemmas.Int.{ints}
use Rattle.lte_bits.specs.Softs.{IsWithin}
use Rattle.model_sender.specs.ConstituentCoder.{zero_state}
use Rattle.window_decode.proofs.border.above_zero.Goals as goal

fits : (a b u v : ℤ) → a ≡ u → b ≡ v → IsWithin 10000000 u → IsWithin 10000000 v → FitsSigned w64 (to_z w64 (of_z w64 a) -ℤ to_z w64 (of_z w64 b))
fits a b u v e f h k = search (arith, ints)

short : (a b u v : ℤ) → a ≡ u → b ≡ v → IsWithin 10000000 u → IsWithin 10000000 v → (u -ℤ v) ≤ℤ pos 4096 → (v -ℤ u) ≤ℤ pos 4096
    → FitsSigned w16 (to_z w64 (of_z w64 (to_z w64 (of_z w64 a) -ℤ to_z w64 (of_z w64 b))))
short a b u v e f h k p q = search (arith, ints)

value : (a b u v : ℤ) → a ≡ u → b ≡ v → IsWithin 10000000 u → IsWithin 10000000 v → (u -ℤ v) ≤ℤ pos 4096 → (v -ℤ u) ≤ℤ pos 4096
    → to_z w16 (of_z w16 (to_z w64 (of_z w64 (to_z w64 (of_z w64 a) -ℤ to_z w64 (of_z w64 b))))) ≡ u -ℤ v
value a b u v e f h k p q = omega (arith, ints)

pub overflow_sub-result : goal.overflow_sub-result
overflow_sub-result c =
    fits _ _ _ _ c.number_of.ensures c.number_of-2.ensures (c.requires.metrics.bounded c.args.s) (c.requires.metrics.bounded zero_state)

pub overflow_cast-result : goal.overflow_cast-result
overflow_cast-result c =
    short _ _ _ _ c.number_of.ensures c.number_of-2.ensures (c.requires.metrics.bounded c.args.s) (c.requires.metrics.bounded zero_state)
    (c.requires.near c.args.s zero_state) (c.requires.near zero_state c.args.s)

pub returns : goal.returns
returns c =
    value _ _ _ _ c.number_of.ensures c.number_of-2.ensures (c.requires.metrics.bounded c.args.s) (c.requires.metrics.bounded zero_state)
    (c.requires.near c.args.s zero_state) (c.requires.near zero_state c.args.s)
