-- Three inputs lead from each state to each state.
use Rattle.std.proofs.Common.{◌≡◌, List, [], ◌∷◌, length, refl, ap, ◌∙◌}
use Rattle.lte_bits.specs.declared.bit.Bit.{Bit}
use Rattle.lte_bits.specs.declared.bit.Bit.TheVariants.{Zero, One}
use Rattle.model_sender.specs.Bits.{plus}
use Rattle.model_sender.specs.ConstituentCoder.{State, next}
use Rattle.model_sender.specs.Tail.{reached}
use Rattle.model_sender.proofs.Coder.{added_twice}
use Rattle.rsc_trellis.specs.Steps.{state_before, input_before}

with_bits : Bit → Bit → Bit → State
with_bits a b c = record { a1 = a; a2 = b; a3 = c }

-- the state before and its input lead to the state
pub next-before : (s : State) (r : Bit) → next (state_before s r) (input_before s r) ≡ s
unfolding with_bits
next-before s r = ap (λ a. with_bits a s.a2 s.a3) (added_twice s.a1 s.a3 r)

-- and the state after a step has that state and input before it
pub input-next : (s : State) (u : Bit) → input_before (next s u) s.a3 ≡ u
input-next s u = added_twice u s.a2 s.a3

-- the inputs that make the three values of t, the oldest first
pub three_inputs : (s t : State) → (us : List Bit) × (length us ≡ 3) × (reached s us ≡ t)
unfolding with_bits
three_inputs s t =
    let u : Bit = plus (plus t.a3 s.a2) s.a3 in
    let x : Bit = plus (plus u s.a2) s.a3 in
    let v : Bit = plus (plus t.a2 s.a1) s.a2 in
    let w : Bit = plus (plus t.a1 x) s.a1 in (
      u ∷ v ∷ w ∷ [],
      refl,
      ap (λ a. with_bits a (plus (plus v s.a1) s.a2) x) (added_twice t.a1 x s.a1)
          ∙ (ap (λ b. with_bits t.a1 b x) (added_twice t.a2 s.a1 s.a2) ∙ ap (λ c. with_bits t.a1 t.a2 c) (added_twice t.a3 s.a2 s.a3)),
    )
