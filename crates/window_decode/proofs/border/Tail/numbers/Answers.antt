use Rattle.std.proofs.Common.{◌≡◌, ℕ, ℤ, ap, sym, ◌∙◌}
use Rattle.lte_bits.specs.Softs.{IsWithin}
use Rattle.lte_bits.specs.declared.bit.Bit.{Bit}
use Rattle.lte_bits.specs.declared.bit.Bit.TheVariants.{Zero, One}
use Rattle.model_sender.specs.ConstituentCoder.{State}
use Rattle.model_receiver.specs.Borders.{state, tail_sum}
use Rattle.window_decode.specs.Recursions.{IsBounded}
use Rattle.window_decode.proofs.Within.{within-same}
use Rattle.window_decode.proofs.border.Tail.numbers.Goals as goal

-- what is true at each of the eight states is true at all
at_all : (n : ℕ) (f : State → ℤ) → IsWithin n (f (state Zero Zero Zero)) → IsWithin n (f (state Zero Zero One)) → IsWithin n (f (state Zero One Zero)) → IsWithin n (f (state Zero One One))
    → IsWithin n (f (state One Zero Zero)) → IsWithin n (f (state One Zero One)) → IsWithin n (f (state One One Zero)) → IsWithin n (f (state One One One)) → IsBounded n f
at_all n f h0 h1 h2 h3 h4 h5 h6 h7 s = by_bits s.a1 s.a2 s.a3
  where
    by_bits : (a b c : Bit) → IsWithin n (f (state a b c))
    by_bits Zero Zero Zero = h0
    by_bits Zero Zero One = h1
    by_bits Zero One Zero = h2
    by_bits Zero One One = h3
    by_bits One Zero Zero = h4
    by_bits One Zero One = h5
    by_bits One One Zero = h6
    by_bits One One One = h7

moved : (n : ℕ) (f : State → ℤ) (r : ℤ) (s t : State) → r ≡ f s → s ≡ t → IsWithin n r → IsWithin n (f t)
moved n f r s t e k h = within-same n (f t) r (sym (e ∙ ap f k)) h

pub returns-clause-range : goal.returns-clause-range
returns-clause-range c =
    let n : ℕ = 762 in let f : State → ℤ = tail_sum c.args.self.now.x c.args.self.now.z in
    at_all n f
    (moved n f _ _ _ c.from_state.ensures.value c.from_bits.ensures c.from_state.ensures.range)
    (moved n f _ _ _ c.from_state-2.ensures.value c.from_bits-2.ensures c.from_state-2.ensures.range)
    (moved n f _ _ _ c.from_state-3.ensures.value c.from_bits-3.ensures c.from_state-3.ensures.range)
    (moved n f _ _ _ c.from_state-4.ensures.value c.from_bits-4.ensures c.from_state-4.ensures.range)
    (moved n f _ _ _ c.from_state-5.ensures.value c.from_bits-5.ensures c.from_state-5.ensures.range)
    (moved n f _ _ _ c.from_state-6.ensures.value c.from_bits-6.ensures c.from_state-6.ensures.range)
    (moved n f _ _ _ c.from_state-7.ensures.value c.from_bits-7.ensures c.from_state-7.ensures.range)
    (moved n f _ _ _ c.from_state-8.ensures.value c.from_bits-8.ensures c.from_state-8.ensures.range)
