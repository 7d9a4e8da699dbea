-- The backward recursion gives the greatest numbers over all bits from a state.
use Rattle.std.proofs.Common.{◌≡◌, ℕ, suc, List, [], ◌∷◌, length, ℤ, pos, ◌+ℤ◌, ◌≤ℤ◌, refl, ap, inl, inr, arith}
use Rattle.std.proofs.lemmas.Int.{ints}
use Rattle.lte_bits.specs.declared.bit.Bit.{Bit}
use Rattle.lte_bits.specs.declared.bit.Bit.TheVariants.{Zero, One}
use Rattle.model_sender.specs.ConstituentCoder.{State, next}
use Rattle.model_sender.specs.Tail.{reached}
use Rattle.model_receiver.specs.Paths.{Gain, earned}
use Rattle.model_receiver.proofs.Maxima.{max-left, max-right, max_is}
use Rattle.window_decode.specs.Recursions.{way_out, backward}
use Rattle.window_decode.specs.Metrics.{IsBackward}

backward-bound : (m : State → ℤ) (g : State → Bit → ℤ) (s : State) (u : Bit) → way_out m g s u ≤ℤ backward m g s
backward-bound m g s Zero = max-left _ _
backward-bound m g s One = max-right _ _

pub backward-attained : (m : State → ℤ) (g : State → Bit → ℤ) (s : State) → (u : Bit) × (backward m g s ≡ way_out m g s u)
backward-attained m g s = elim (max_is (way_out m g s Zero) (way_out m g s One)) [ inl e ↦ (Zero, e) | inr e ↦ (One, e) ]

pub backward_none : (last : State → ℤ) (g : Gain) (j : ℕ) → IsBackward last g j 0 last
backward_none last g j s = record {
  attained = ([], refl, (let e : pos 0 +ℤ last s ≡ last s = omega (arith, ints) in e));
  bound = λ us ok. nothing us ok;
}
  where
    nothing : (us : List Bit) → length us ≡ 0 → (earned g j s us +ℤ last (reached s us)) ≤ℤ last s
    nothing [] h = omega (arith, ints)
    nothing (u ∷ us) h = absurd (omega (arith, h))

pub backward_more : (last : State → ℤ) (g : Gain) (j n : ℕ) (m : State → ℤ) → IsBackward last g (suc j) n m → IsBackward last g j (suc n) (backward m (g j))
backward_more last g j n m h s = record {
  attained =
      let w = backward-attained m (g j) s in
      let p = (h (next s w.0)).attained in
      (w.0 ∷ p.0, ap suc p.1, sum_is _ _ _ _ _ p.2 w.1);
  bound = λ us ok. some us ok;
}
  where
    sum_is : (g e l z b : ℤ) → e +ℤ l ≡ z → b ≡ g +ℤ z → (g +ℤ e) +ℤ l ≡ b
    sum_is g e l z b p q = omega (arith, ints)

    sum_le : (g e l z b : ℤ) → (e +ℤ l) ≤ℤ z → (g +ℤ z) ≤ℤ b → ((g +ℤ e) +ℤ l) ≤ℤ b
    sum_le g e l z b p q = omega (arith, ints)

    some : (us : List Bit) → length us ≡ suc n → (earned g j s us +ℤ last (reached s us)) ≤ℤ backward m (g j) s
    some [] k = absurd (omega (arith, k))
    some (u ∷ us) k = sum_le _ _ _ _ _ ((h (next s u)).bound us (omega (arith, k))) (backward-bound m (g j) s u)
