-- The streams from the cells of the coders and the states in which they ended.
use Rattle.std.proofs.Common.{◌≡◌, ℕ, ◌+◌, List, [], ◌∷◌, ◌++◌, length, sym, ap, ◌∙◌, arith}
use Rattle.std.proofs.lemmas.List.FromFn.{length-map-range_with_len}
use Rattle.lte_bits.specs.declared.bit.Bit.{Bit}
use Rattle.lte_bits.specs.declared.bit.Cell.{Cell}
use Rattle.lte_bits.specs.declared.block.Streams.{Streams}
use Rattle.model_sender.specs.Bits.{at}
use Rattle.model_sender.specs.ConstituentCoder.{State, zero_state, values, parities, tail_x, tail_z}
use Rattle.model_sender.specs.CodedStreams.{cells_of, null_filled, tail_0, tail_1, tail_2, coded, interleaved}
use Rattle.model_sender.specs.Interleaver.{place}
use Rattle.model_sender.specs.Tail.{reached, tail_input, tail_parity}
use Rattle.model_sender.proofs.TailSteps.{tail_x-after, tail_z-after}
use Rattle.turbo_encode.proofs.TailBits.{four}

-- the tail after c, by the state after c
x_at : (s : State) (c : List Bit) (n k : ℕ) → s ≡ reached zero_state c → n ≡ length c + k → tail_input s k ≡ tail_x (values c) n
x_at s c n k end place = ap (λ t. tail_input t k) end ∙ (sym (tail_x-after c k) ∙ ap (λ m. tail_x (values c) m) (sym place))

z_at : (s : State) (c : List Bit) (n k : ℕ) → s ≡ reached zero_state c → n ≡ length c + k → tail_parity s k ≡ tail_z (values c) n
z_at s c n k end place = ap (λ t. tail_parity t k) end ∙ (sym (tail_z-after c k) ∙ ap (λ m. tail_z (values c) m) (sym place))

-- two coders that ended after c and d, which are as long
record Ended (c d : List Bit) (e f : State) : Type 0 where
  long : length d ≡ length c
  first : e ≡ reached zero_state c
  second : f ≡ reached zero_state d

abbrev bits_0 : State → State → List Bit
bits_0 e f = tail_input e 0 ∷ tail_parity e 1 ∷ tail_input f 0 ∷ tail_parity f 1 ∷ []

abbrev bits_1 : State → State → List Bit
bits_1 e f = tail_parity e 0 ∷ tail_input e 2 ∷ tail_parity f 0 ∷ tail_input f 2 ∷ []

abbrev bits_2 : State → State → List Bit
bits_2 e f = tail_input e 1 ∷ tail_parity e 2 ∷ tail_input f 1 ∷ tail_parity f 2 ∷ []

bits_0-is : (c d : List Bit) (e f : State) → Ended c d e f → bits_0 e f ≡ tail_0 (length c) (values c) (values d)
bits_0-is c d e f h =
    four _ _ _ _ _ _ _ _
    (x_at e c (length c) 0 h.first (omega arith))
    (z_at e c (length c + 1) 1 h.first (omega arith))
    (x_at f d (length c) 0 h.second (omega (arith, h.long)))
    (z_at f d (length c + 1) 1 h.second (omega (arith, h.long)))

bits_1-is : (c d : List Bit) (e f : State) → Ended c d e f → bits_1 e f ≡ tail_1 (length c) (values c) (values d)
bits_1-is c d e f h =
    four _ _ _ _ _ _ _ _
    (z_at e c (length c) 0 h.first (omega arith))
    (x_at e c (length c + 2) 2 h.first (omega arith))
    (z_at f d (length c) 0 h.second (omega (arith, h.long)))
    (x_at f d (length c + 2) 2 h.second (omega (arith, h.long)))

bits_2-is : (c d : List Bit) (e f : State) → Ended c d e f → bits_2 e f ≡ tail_2 (length c) (values c) (values d)
bits_2-is c d e f h =
    four _ _ _ _ _ _ _ _
    (x_at e c (length c + 1) 1 h.first (omega arith))
    (z_at e c (length c + 2) 2 h.first (omega arith))
    (x_at f d (length c + 1) 1 h.second (omega (arith, h.long)))
    (z_at f d (length c + 2) 2 h.second (omega (arith, h.long)))

same_streams : (a b c a' b' c' : List Cell) → a ≡ a' → b ≡ b' → c ≡ c' → (let s : Streams = record { d0 = a; d1 = b; d2 = c } in s) ≡ record { d0 = a'; d1 = b'; d2 = c' }
same_streams a b c a' b' c' ea eb ec = cc

pub streams-made : (fill : ℕ) (c d : List Bit) (e f : State) (d0 d1 d2 : List Cell)
    → length d ≡ length c → e ≡ reached zero_state c → f ≡ reached zero_state d
    → d0 ≡ null_filled fill c ++ cells_of (tail_input e 0 ∷ tail_parity e 1 ∷ tail_input f 0 ∷ tail_parity f 1 ∷ [])
    → d1 ≡ null_filled fill (parities c) ++ cells_of (tail_parity e 0 ∷ tail_input e 2 ∷ tail_parity f 0 ∷ tail_input f 2 ∷ [])
    → d2 ≡ cells_of (parities d) ++ cells_of (tail_input e 1 ∷ tail_parity e 2 ∷ tail_input f 1 ∷ tail_parity f 2 ∷ [])
    → (let s : Streams = record { d0 = d0; d1 = d1; d2 = d2 } in s) ≡ coded fill c d
streams-made fill c d e f d0 d1 d2 long end_c end_d e0 e1 e2 =
    let h : Ended c d e f = record { long = long; first = end_c; second = end_d } in
    same_streams d0 d1 d2 _ _ _
    (e0 ∙ ap (λ bits. null_filled fill c ++ cells_of bits) (bits_0-is c d e f h))
    (e1 ∙ ap (λ bits. null_filled fill (parities c) ++ cells_of bits) (bits_1-is c d e f h))
    (e2 ∙ ap (λ bits. cells_of (parities d) ++ cells_of bits) (bits_2-is c d e f h))

pub length-interleaved : (c : List Bit) → length (interleaved c) ≡ length c
length-interleaved c = length-map-range_with_len (λ i. at c (place (length c) i)) 0 (length c)
