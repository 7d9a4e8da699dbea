-- The steps of the recursions on lanes of 16 bits: what they give, and that no lane wraps.
use Rattle.std.proofs.Common.{◌≡◌, ℕ, ◌+◌, ◌≤◌, List, refl, ap, sym, ◌∙◌, subst, arith, ℤ, pos, ◌+ℤ◌, ◌-ℤ◌, ◌≤ℤ◌, w16, to_z, of_z}
use Rattle.std.proofs.lemmas.Int.{ints}
use Rattle.lte_bits.specs.Softs.{IsWithin}
use Rattle.lte_bits.specs.declared.bit.Bit.{Bit}
use Rattle.lte_bits.specs.declared.bit.Bit.TheVariants.{Zero, One}
use Rattle.model_sender.specs.ConstituentCoder.{State, zero_state, next, parity}
use Rattle.rsc_trellis.specs.Steps.{state_before, input_before}
use Rattle.model_receiver.specs.Borders.{state, number_for, border_of, if_zero, relative, IsBorder}
use Rattle.window_decode.specs.Recursions.{IsBounded, step_gain, way_in, way_out, joined}
use Rattle.window_decode.specs.Lanes.{IsRelative}
use Rattle.window_decode.proofs.Within.{within-same, within-sum, within-if_zero, within-more}
use Rattle.window_decode.proofs.EightStates.{border-same, relative-same, by_eight}
use Rattle.window_decode.proofs.LaneSteps.{stored}
use Rattle.window_decode.proofs.LaneNumbers.{AreNumbers, passed, number_passed, numbers_passed, moved-numbers, sum-numbers}

-- the same numbers, as they are wanted
pub numbers-same : (n : ℕ) (f g : State → ℤ) (xs : List ℤ) → ((s : State) → f s ≡ g s) → AreNumbers n f xs → AreNumbers n g xs
numbers-same n f g xs e h = record { is = h.is ∙ border-same f g e; bounded = λ s. within-same n (g s) (f s) (sym (e s)) (h.bounded s) }

-- a value that is passed on, where a bit is 0
abbrev pub earned : (State → Bit) → ℤ → List ℤ
earned b x = border_of (λ s. if_zero (b s) (to_z w16 (of_z w16 x)))

pub earned-numbers : (n : ℕ) (b : State → Bit) (x : ℤ) (r : List ℤ) → n ≤ 32767 → IsWithin n x → r ≡ earned b x → AreNumbers n (λ s. if_zero (b s) x) r
earned-numbers n b x r le h e = record {
  is = e ∙ border-same (λ s. if_zero (b s) (to_z w16 (of_z w16 x))) (λ s. if_zero (b s) x) (λ s. ap (λ z. if_zero (b s) z) (stored x (within-more n 32767 x le h)));
  bounded = λ s. within-if_zero (b s) n x h;
}

-- relative metrics are small
pub relative-numbers : (m : List ℤ) → IsRelative m → AreNumbers 6391 (number_for m) m
relative-numbers m h = record {
  is = by_eight (λ m. m ≡ border_of (number_for m)) (λ a b c d e f g i. refl) m h.eight;
  bounded = λ s. small (number_for m s) (number_for m zero_state) h.zero (h.near s zero_state) (h.near zero_state s);
}
  where
    small : (x z : ℤ) → z ≡ pos 0 → (x -ℤ z) ≤ℤ pos 6391 → (z -ℤ x) ≤ℤ pos 6391 → IsWithin 6391 x
    small x z e p q = (omega (arith, ints), omega (arith, ints))

-- and stay so when they are passed on
pub relative_passed : (m : List ℤ) → IsRelative m → (s : State) → number_for (passed m) s ≡ number_for m s
relative_passed m h s = number_passed 6391 (number_for m) m (omega arith) (relative-numbers m h) s

pub passed-relative : (m : List ℤ) → IsRelative m → passed m ≡ m
passed-relative m h =
    let own = relative-numbers m h in
    numbers_passed 6391 (number_for m) m (omega arith) own ∙ sym own.is

pub relative-still : (m : List ℤ) → IsRelative m → IsRelative (passed m)
relative-still m h = subst (λ (ys : List ℤ). IsRelative ys) (sym (passed-relative m h)) h

pub passed-border : (b : List ℤ) → IsBorder b → passed b ≡ b
passed-border b h = passed-relative b (record { eight = h.eight; zero = h.zero; near = λ s t. more _ (h.spread s t) })
  where
    more : (x : ℤ) → x ≤ℤ pos 4096 → x ≤ℤ pos 6391
    more x p = omega (arith, ints)

pub border-still : (b : List ℤ) → IsBorder b → IsBorder (passed b)
border-still b h = subst (λ (ys : List ℤ). IsBorder ys) (sym (passed-border b h)) h

-- ---- into a state

-- a step into a state has the parity bit of a step from it
parity-before : (s : State) (u : Bit) → parity (state_before s u) (input_before s u) ≡ parity s u
parity-before s u = by_bits s.a1 s.a2 s.a3 u
  where
    by_bits : (a b c u : Bit) → parity (state_before (state a b c) u) (input_before (state a b c) u) ≡ parity (state a b c) u
    by_bits Zero Zero Zero Zero = refl
    by_bits Zero Zero Zero One = refl
    by_bits Zero Zero One Zero = refl
    by_bits Zero Zero One One = refl
    by_bits Zero One Zero Zero = refl
    by_bits Zero One Zero One = refl
    by_bits Zero One One Zero = refl
    by_bits Zero One One One = refl
    by_bits One Zero Zero Zero = refl
    by_bits One Zero Zero One = refl
    by_bits One Zero One Zero = refl
    by_bits One Zero One One = refl
    by_bits One One Zero Zero = refl
    by_bits One One Zero One = refl
    by_bits One One One Zero = refl
    by_bits One One One One = refl

pub before-numbers : (u : Bit) (m r : List ℤ) → IsRelative m → r ≡ border_of (λ s. number_for (passed m) (state_before s u)) → AreNumbers 6391 (λ s. number_for m (state_before s u)) r
before-numbers u m r h e = moved-numbers 6391 (number_for m) (λ s. state_before s u) m r (omega arith) (relative-numbers m h) e

pub gain-numbers : (u : Bit) (x p : ℤ) (i q r : List ℤ) → IsWithin 638 x → IsWithin 127 p → i ≡ earned (λ s. input_before s u) x → q ≡ earned (λ s. parity s u) p
    → r ≡ border_of (λ s. number_for (passed i) s +ℤ number_for (passed q) s) → AreNumbers 765 (λ s. if_zero (input_before s u) x +ℤ if_zero (parity s u) p) r
gain-numbers u x p i q r h k e f g =
    sum-numbers 638 127 (λ s. if_zero (input_before s u) x) (λ s. if_zero (parity s u) p) i q r (omega arith)
    (earned-numbers 638 (λ s. input_before s u) x i (omega arith) h e) (earned-numbers 127 (λ s. parity s u) p q (omega arith) k f) g

-- the sum of both is the way in
pub way-sum : (u : Bit) (m : List ℤ) (x p : ℤ) (b r s : List ℤ) → AreNumbers 6391 (λ s. number_for m (state_before s u)) b
    → AreNumbers 765 (λ s. if_zero (input_before s u) x +ℤ if_zero (parity s u) p) r → s ≡ border_of (λ s. number_for (passed b) s +ℤ number_for (passed r) s)
    → AreNumbers 7156 (λ s. way_in (number_for m) (step_gain x p) s u) s
way-sum u m x p b r s h k e =
    numbers-same 7156 (λ s. number_for m (state_before s u) +ℤ (if_zero (input_before s u) x +ℤ if_zero (parity s u) p)) (λ s. way_in (number_for m) (step_gain x p) s u) s
    (λ s. ap (λ c. number_for m (state_before s u) +ℤ (if_zero (input_before s u) x +ℤ if_zero c p)) (sym (parity-before s u)))
    (sum-numbers 6391 765 (λ s. number_for m (state_before s u)) (λ s. if_zero (input_before s u) x +ℤ if_zero (parity s u) p) b r s (omega arith) h k e)

pub way-numbers : (u : Bit) (m : List ℤ) (x p : ℤ) (r : List ℤ) → IsRelative m → IsWithin 638 x → IsWithin 127 p → r ≡ border_of (λ s. way_in (number_for (passed m)) (step_gain x p) s u)
    → AreNumbers 7156 (λ s. way_in (number_for m) (step_gain x p) s u) r
way-numbers u m x p r h k l e = record {
  is =
      e ∙ border-same (λ s. way_in (number_for (passed m)) (step_gain x p) s u) (λ s. way_in (number_for m) (step_gain x p) s u)
      (λ s. ap (λ z. z +ℤ step_gain x p (state_before s u) (input_before s u)) (relative_passed m h (state_before s u)));
  bounded = λ s.
      within-sum 6391 765 _ _ ((relative-numbers m h).bounded (state_before s u))
      (within-sum 638 127 _ _ (within-if_zero (input_before s u) 638 x k) (within-if_zero (parity (state_before s u) (input_before s u)) 127 p l));
}

-- ---- on from a state

pub after-numbers : (u : Bit) (m r : List ℤ) → IsRelative m → r ≡ border_of (λ s. number_for (passed m) (next s u)) → AreNumbers 6391 (λ s. number_for m (next s u)) r
after-numbers u m r h e = moved-numbers 6391 (number_for m) (λ s. next s u) m r (omega arith) (relative-numbers m h) e

-- without what the input earns
abbrev pub onward : List ℤ → ℤ → Bit → State → ℤ
onward m p u s = if_zero (parity s u) p +ℤ number_for m (next s u)

pub onward-numbers : (u : Bit) (m : List ℤ) (p : ℤ) (r : List ℤ) → IsRelative m → IsWithin 127 p → r ≡ border_of (onward (passed m) (to_z w16 (of_z w16 p)) u) → AreNumbers 6518 (onward m p u) r
onward-numbers u m p r h k e = record {
  is =
      e ∙ border-same (onward (passed m) (to_z w16 (of_z w16 p)) u) (onward m p u)
      (λ s. ap (λ z. if_zero (parity s u) z +ℤ number_for (passed m) (next s u)) (stored p (within-more 127 32767 p (omega arith) k))
      ∙ ap (λ z. if_zero (parity s u) p +ℤ z) (relative_passed m h (next s u)));
  bounded = λ s. within-sum 127 6391 _ _ (within-if_zero (parity s u) 127 p k) ((relative-numbers m h).bounded (next s u));
}

pub all-numbers : (n : ℕ) (x : ℤ) (r : List ℤ) → n ≤ 32767 → IsWithin n x → r ≡ border_of (λ _. to_z w16 (of_z w16 x)) → AreNumbers n (λ _. x) r
all-numbers n x r le h e = record { is = e ∙ border-same (λ _. to_z w16 (of_z w16 x)) (λ _. x) (λ s. stored x (within-more n 32767 x le h)); bounded = λ s. h }

-- the way out by each input
pub out_by_zero : (m : List ℤ) (x p : ℤ) (s : State) → x +ℤ onward m p Zero s ≡ way_out (number_for m) (step_gain x p) s Zero
out_by_zero m x p s = assoc x (if_zero (parity s Zero) p) (number_for m (next s Zero))
  where
    assoc : (x q k : ℤ) → x +ℤ (q +ℤ k) ≡ (x +ℤ q) +ℤ k
    assoc x q k = omega (arith, ints)

pub out_by_one : (m : List ℤ) (x p : ℤ) (s : State) → onward m p One s ≡ way_out (number_for m) (step_gain x p) s One
out_by_one m x p s = assoc (if_zero (parity s One) p) (number_for m (next s One))
  where
    assoc : (q k : ℤ) → q +ℤ k ≡ (pos 0 +ℤ q) +ℤ k
    assoc q k = omega (arith, ints)

-- ---- less the number of state 0

pub above_zero-fits : (n : ℕ) (f : State → ℤ) (xs : List ℤ) → n + n ≤ 32767 → AreNumbers n f xs → IsBounded 32767 (λ s. number_for (passed xs) s -ℤ number_for (passed xs) zero_state)
above_zero-fits n f xs le h s = differ _ _ (f s) (f zero_state) (number_passed n f xs (omega (arith, le)) h s)
    (number_passed n f xs (omega (arith, le)) h zero_state) (h.bounded s) (h.bounded zero_state)
  where
    differ : (a b x y : ℤ) → a ≡ x → b ≡ y → IsWithin n x → IsWithin n y → IsWithin 32767 (a -ℤ b)
    differ a b x y e f p q = (omega (arith, ints, le), omega (arith, ints, le))

pub above_zero-numbers : (n : ℕ) (f : State → ℤ) (xs r : List ℤ) → n ≤ 32767 → AreNumbers n f xs → r ≡ relative (number_for (passed xs)) → AreNumbers (n + n) (λ s. f s -ℤ f zero_state) r
above_zero-numbers n f xs r le h e = record {
  is = e ∙ relative-same (number_for (passed xs)) f (λ s. number_passed n f xs le h s);
  bounded = λ s. differ (f s) (f zero_state) (h.bounded s) (h.bounded zero_state);
}
  where
    differ : (x y : ℤ) → IsWithin n x → IsWithin n y → IsWithin (n + n) (x -ℤ y)
    differ x y p q = (omega (arith, ints), omega (arith, ints))

-- ---- joined

pub joined-numbers : (u : Bit) (m k : List ℤ) (p : ℤ) (o r : List ℤ) → IsRelative m → AreNumbers 6518 (onward k p u) o → r ≡ border_of (λ s. number_for (passed m) s +ℤ number_for (passed o) s)
    → AreNumbers 12909 (joined (number_for m) (number_for k) p u) r
joined-numbers u m k p o r h g e =
    numbers-same 12909 (λ s. number_for m s +ℤ onward k p u s) (joined (number_for m) (number_for k) p u) r
    (λ s. assoc (number_for m s) (if_zero (parity s u) p) (number_for k (next s u)))
    (sum-numbers 6391 6518 (number_for m) (onward k p u) m o r (omega arith) (relative-numbers m h) g e)
  where
    assoc : (x q k : ℤ) → x +ℤ (q +ℤ k) ≡ x +ℤ q +ℤ k
    assoc x q k = omega (arith, ints)
