use Rattle.std.proofs.Common.{◌≡◌, ℤ, pos, negsuc, ◌+ℤ◌, ◌*ℤ◌, ap, ◌∙◌, Bool, FitsSigned, to_z, of_z, w16, w32, arith}
use Rattle.std.specs.Prelude.{int_div, int_lt}
use Rattle.std.specs.Int.{int_max, int_min}
use Rattle.std.proofs.lemmas.Int.{ints, clamps}
use Rattle.lte_bits.specs.Softs.{IsWithin, clamped}
use Rattle.model_receiver.specs.Windows.{Extrinsic, scaled}
use Rattle.window_decode.proofs.Within.{within-same}
use Rattle.window_decode.proofs.Scaling.{quarters}
use Rattle.window_decode.proofs.ext.Ext.from_extrinsic.Goals as goal

same_cell : (a b : ℤ) (p q : Bool) → a ≡ b → p ≡ q → (let c : Extrinsic = record { value = a; one = p } in c) ≡ (let d : Extrinsic = record { value = b; one = q } in d)
same_cell a b p q e f = ap (λ (z : ℤ). let c : Extrinsic = record { value = z; one = p } in c) e ∙ ap (λ (t : Bool). let c : Extrinsic = record { value = b; one = t } in c) f

three : (z : ℤ) → IsWithin 682 z → to_z w32 (of_z w32 (to_z w32 (of_z w32 z) *ℤ pos 3)) ≡ z *ℤ pos 3
three z h = omega (arith, ints)

three-fits : (z : ℤ) → IsWithin 682 z → FitsSigned w32 (z *ℤ pos 3)
three-fits z h = search (arith, ints)

stored : (x q : ℤ) → q ≡ scaled x → to_z w16 (of_z w16 (to_z w32 (of_z w32 q))) ≡ q
stored x q e = small (int_div (pos 3 *ℤ x) (pos 4)) q e
  where
    small : (y q : ℤ) → q ≡ clamped 511 y → to_z w16 (of_z w16 (to_z w32 (of_z w32 q))) ≡ q
    small y q e = omega (arith, ints, clamps)

-- the clamp's result, of a number that is passed on
clamped-within : (x z : ℤ) → z ≡ int_max (negsuc 681) (int_min (to_z w32 (of_z w32 x)) (pos 682)) → IsWithin 682 z
clamped-within x z e = (omega (arith, ints, clamps), omega (arith, ints, clamps))

clamped-same : (x z : ℤ) → IsWithin 25818 x → z ≡ int_max (negsuc 681) (int_min (to_z w32 (of_z w32 x)) (pos 682)) → z ≡ int_max (negsuc 681) (int_min x (pos 682))
clamped-same x z h e = omega (arith, ints, clamps)

quarter : (x z : ℤ) → IsWithin 25818 x → z ≡ int_max (negsuc 681) (int_min (to_z w32 (of_z w32 x)) (pos 682))
    → to_z w16 (of_z w16 (to_z w32 (of_z w32 (int_div (to_z w32 (of_z w32 (to_z w32 (of_z w32 z) *ℤ pos 3))) (pos 4))))) ≡ scaled x
quarter x z h e =
    let within = clamped-within x z e in
    let is : int_div (z *ℤ pos 3) (pos 4) ≡ scaled x = quarters x z (clamped-same x z h e) in
    ap (λ v. to_z w16 (of_z w16 (to_z w32 (of_z w32 (int_div v (pos 4)))))) (three z within)
    ∙ (stored x (int_div (z *ℤ pos 3) (pos 4)) is ∙ is)

sum : (x a o s k : ℤ) → IsWithin 25818 x → IsWithin 638 o → a ≡ to_z w16 (of_z w16 o) → o ≡ s +ℤ k
    → to_z w32 (of_z w32 (to_z w32 (of_z w32 x) +ℤ to_z w32 (of_z w32 a))) ≡ x +ℤ s +ℤ k
sum x a o s k h l e f = omega (arith, ints)

pub returns : goal.returns
returns c = λ s k e.
    same_cell _ _ _ _ (quarter c.args.x c.clamp.result c.requires.x c.clamp.ensures.value)
    (ap (λ z. int_lt z (pos 0)) (sum c.args.x c.from.result c.args.own s k c.requires.x c.requires.own c.from.ensures e))

pub invariant_of-result : goal.invariant_of-result
invariant_of-result c = within-same 511 _ _ (quarter c.args.x c.clamp.result c.requires.x c.clamp.ensures.value) (small (int_div (pos 3 *ℤ c.args.x) (pos 4)))
  where
    small : (y : ℤ) → IsWithin 511 (clamped 511 y)
    small y = (omega (arith, ints, clamps), omega (arith, ints, clamps))
