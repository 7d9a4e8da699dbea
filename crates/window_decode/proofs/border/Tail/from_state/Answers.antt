use Rattle.std.proofs.Common.{◌≡◌, ℤ, ◌+ℤ◌, List, [], ◌∷◌, length, map, get_or, ap, ◌∙◌, to_z, of_z, w64, arith}
use Rattle.std.proofs.lemmas.Int.{ints}
use Rattle.lte_bits.specs.Softs.{IsWithin}
use Rattle.lte_bits.specs.declared.bit.Bit.{Bit}
use Rattle.lte_bits.specs.declared.bit.Bit.TheVariants.{Zero}
use Rattle.model_receiver.specs.Borders.{if_zero, tail_step}
use Rattle.window_decode.proofs.border.Tail.from_state.Goals as goal

-- three elements that are read one by one
record Three (f : Bit × Bit → Bit) (xs : List (Bit × Bit)) (d : Bit × Bit) (a b c : Bit) : Type 0 where
  first : f (get_or xs 0 d) ≡ a
  second : f (get_or xs 1 d) ≡ b
  third : f (get_or xs 2 d) ≡ c

three : (f : Bit × Bit → Bit) (xs : List (Bit × Bit)) (d : Bit × Bit) (a b c : Bit) → map f xs ≡ a ∷ b ∷ c ∷ [] → Three f xs d a b c
three f [] d a b c h = absurd (let l : 0 ≡ 3 = ap length h in omega (arith, l))
three f (x ∷ []) d a b c h = absurd (let l : 1 ≡ 3 = ap length h in omega (arith, l))
three f (x ∷ y ∷ []) d a b c h = absurd (let l : 2 ≡ 3 = ap length h in omega (arith, l))
three f (x ∷ y ∷ z ∷ []) d a b c h =
    record { first = ap (λ l. get_or l 0 Zero) h; second = ap (λ l. get_or l 1 Zero) h; third = ap (λ l. get_or l 2 Zero) h }
three f (x ∷ y ∷ z ∷ v ∷ xs) d a b c h = absurd (let l : length (f x ∷ f y ∷ f z ∷ f v ∷ map f xs) ≡ 3 = ap length h in omega (arith, l))

one_step : (r u v : ℤ) (a b p q : Bit) → r ≡ if_zero a u +ℤ if_zero b v → a ≡ p → b ≡ q → r ≡ if_zero p u +ℤ if_zero q v
one_step r u v a b p q e f g = e ∙ (ap (λ z. if_zero z u +ℤ if_zero b v) f ∙ ap (λ z. if_zero p u +ℤ if_zero z v) g)

sum : (a b c u v w : ℤ) → IsWithin 254 a → IsWithin 254 b → IsWithin 254 c → a ≡ u → b ≡ v → c ≡ w
    → to_z w64 (of_z w64 (to_z w64 (of_z w64 (to_z w64 (of_z w64 a) +ℤ to_z w64 (of_z w64 b))) +ℤ to_z w64 (of_z w64 c))) ≡ u +ℤ v +ℤ w
sum a b c u v w p q r e f g = omega (arith, ints)

pub returns-clause-value : goal.returns-clause-value
returns-clause-value c =
    let t = c.args.self.now in let s = c.args.s in
    let i = three (λ p. p.0) c.tail_path.result (Zero, Zero) _ _ _ c.tail_path.ensures.inputs in
    let p = three (λ p. p.1) c.tail_path.result (Zero, Zero) _ _ _ c.tail_path.ensures.parities in
    sum c.step.result c.step-2.result c.step-3.result (tail_step t.x t.z s 0) (tail_step t.x t.z s 1) (tail_step t.x t.z s 2)
    c.step.ensures.range c.step-2.ensures.range c.step-3.ensures.range
    (one_step _ _ _ _ _ _ _ c.step.ensures.value i.first p.first)
    (one_step _ _ _ _ _ _ _ c.step-2.ensures.value i.second p.second)
    (one_step _ _ _ _ _ _ _ c.step-3.ensures.value i.third p.third)
