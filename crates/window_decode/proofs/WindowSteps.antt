-- One step of the sweeps over a window's positions.
use Rattle.std.proofs.Common.{◌≡◌, ℕ, zero, suc, ◌+◌, ◌<◌, List, [], ◌∷◌, length, ℤ, pos, ◌+ℤ◌, ◌-ℤ◌, ◌≤ℤ◌, refl, sym, ap, ◌∙◌, subst, arith}
use Rattle.std.specs.Int.{int_max}
use Rattle.std.proofs.lemmas.Int.{ints, clamps}
use Rattle.lte_bits.specs.Softs.{IsWithin}
use Rattle.lte_bits.specs.declared.bit.Bit.{Bit}
use Rattle.lte_bits.specs.declared.bit.Bit.TheVariants.{Zero, One}
use Rattle.model_sender.specs.ConstituentCoder.{State, zero_state, next, parity}
use Rattle.rsc_trellis.specs.Steps.{state_before, input_before}
use Rattle.model_receiver.specs.Borders.{Border, IsBorder, number_for, border_of, relative, at, if_zero}
use Rattle.model_receiver.specs.Paths.{Window, width, Gain, gain, greatest, best}
use Rattle.model_receiver.specs.Windows.{Extrinsic, values, cell_at, window_between, cell_from, new_cell}
use Rattle.window_decode.specs.Lanes.{IsRelative}
use Rattle.window_decode.specs.Recursions.{AreNear, step_gain, forward, backward, joined, through, cell_through}
use Rattle.window_decode.specs.Metrics.{IsForwardRow, IsBackwardRow, IsForward, IsBackward}
use Rattle.window_decode.proofs.EightStates.{number-border_of, same_eight, border-same, by_eight, states-bound, states-attained}
use Rattle.window_decode.proofs.LaneNumbers.{passed}
use Rattle.window_decode.proofs.LaneKernel.{passed-relative}
use Rattle.window_decode.proofs.ForwardMetrics.{forward_none, forward_more}
use Rattle.window_decode.proofs.BackwardMetrics.{backward_none, backward_more}
use Rattle.window_decode.proofs.JoinedPaths.{joined-best}
use Rattle.window_decode.proofs.Spread.{IsNarrow, narrow-step}
use Rattle.window_decode.proofs.Widening.{forward-spread, backward-spread}

pub at-values : (cells : List Extrinsic) (j : ℕ) → at (values cells) j ≡ (cell_at cells j).value
at-values [] j = refl
at-values (c ∷ cells) zero = refl
at-values (c ∷ cells) (suc j) = at-values cells j

-- x and p are what input and parity bits 0 earn at position j
pub record Earns (g : Gain) (j : ℕ) (x p : ℤ) : Type 0 where
  pub is : (s : State) (u : Bit) → g j s u ≡ step_gain x p s u
  pub input : IsWithin 638 x
  pub parity : IsWithin 127 p

pub earns : (start end : Border) (sys par : List ℤ) (cells : List Extrinsic) (j : ℕ) (x p : ℤ) → x ≡ at sys j +ℤ (cell_at cells j).value → p ≡ at par j → IsWithin 638 x → IsWithin 127 p
    → Earns (gain (window_between start end sys par cells)) j x p
earns start end sys par cells j x p e f h k = record {
  is = λ s u.
      let i : at sys j +ℤ at (values cells) j ≡ x = ap (λ z. at sys j +ℤ z) (at-values cells j) ∙ sym e in
      ap (λ z. step_gain z (at par j) s u) i ∙ ap (λ z. step_gain x z s u) (sym f);
  input = h;
  parity = k;
}

pub narrow : (g : Gain) (j : ℕ) (x p : ℤ) → Earns g j x p → IsNarrow g j
narrow g j x p h = narrow-step g j x p h.is h.input h.parity

-- ---- rows

-- a border is relative already
border-relative : (b : Border) → IsBorder b → b ≡ relative (number_for b)
border-relative b h =
    by_eight (λ b. number_for b zero_state ≡ pos 0 → b ≡ relative (number_for b))
    (λ a b c d e f g i zero. same_eight (λ s. number_for (a ∷ b ∷ c ∷ d ∷ e ∷ f ∷ g ∷ i ∷ []) s -ℤ a) a b c d e f g i
    (less a a zero) (less b a zero) (less c a zero) (less d a zero) (less e a zero) (less f a zero) (less g a zero) (less i a zero))
    b h.eight h.zero
  where
    less : (x a : ℤ) → a ≡ pos 0 → x ≡ x -ℤ a
    less x a e = omega (arith, ints)

number-relative : (row : List ℤ) (m : State → ℤ) → row ≡ relative m → (s : State) → number_for row s ≡ m s -ℤ m zero_state
number-relative row m e s = ap (λ xs. number_for xs s) e ∙ number-border_of (λ t. m t -ℤ m zero_state) s

-- numbers that are less by the same are relative to the same
relative-less : (f m : State → ℤ) (c : ℤ) → ((s : State) → f s ≡ m s -ℤ c) → relative f ≡ relative m
relative-less f m c e = border-same (λ s. f s -ℤ f zero_state) (λ s. m s -ℤ m zero_state) (λ s. less (f s) (f zero_state) (m s) (m zero_state) (e s) (e zero_state))
  where
    less : (a b x y : ℤ) → a ≡ x -ℤ c → b ≡ y -ℤ c → a -ℤ b ≡ x -ℤ y
    less a b x y p q = omega (arith, ints)

-- rows stay near, so that they fit 16 bits
pub row-relative : (row : List ℤ) (m : State → ℤ) → row ≡ relative m → AreNear 6391 m → IsRelative row
row-relative row m e near = record {
  eight = ap length e;
  zero = number-relative row m e zero_state ∙ nothing (m zero_state);
  near = λ s t. between _ _ (m s) (m t) (m zero_state) (number-relative row m e s) (number-relative row m e t) (near s t);
}
  where
    nothing : (x : ℤ) → x -ℤ x ≡ pos 0
    nothing x = omega (arith, ints)

    between : (a b x y z : ℤ) → a ≡ x -ℤ z → b ≡ y -ℤ z → (x -ℤ y) ≤ℤ pos 6391 → (a -ℤ b) ≤ℤ pos 6391
    between a b x y z p q h = omega (arith, ints)

-- ---- forward

pub forward_first : (start : Border) (g : Gain) (m : List ℤ) → m ≡ start → IsBorder start → IsForwardRow start g 0 m
forward_first start g m e h = record { metrics = number_for start; greatest = forward_none (number_for start) g; is = e ∙ border-relative start h }

step-less : (f m : State → ℤ) (g h : State → Bit → ℤ) (c : ℤ) (s : State) → ((t : State) → f t ≡ m t -ℤ c) → ((t : State) (u : Bit) → h t u ≡ g t u) → forward f g s ≡ forward m h s -ℤ c
step-less f m g h c s e k =
    less _ _ _ _ _ _ _ _ (e (state_before s Zero)) (e (state_before s One)) (k (state_before s Zero) (input_before s Zero)) (k (state_before s One) (input_before s One))
  where
    less : (a b x y p q u v : ℤ) → a ≡ x -ℤ c → b ≡ y -ℤ c → u ≡ p → v ≡ q → int_max (a +ℤ p) (b +ℤ q) ≡ int_max (x +ℤ u) (y +ℤ v) -ℤ c
    less a b x y p q u v e f h k = omega (arith, ints, clamps)

back-less : (f m : State → ℤ) (g h : State → Bit → ℤ) (c : ℤ) (s : State) → ((t : State) → f t ≡ m t -ℤ c) → ((t : State) (u : Bit) → h t u ≡ g t u) → backward f g s ≡ backward m h s -ℤ c
back-less f m g h c s e k =
    less _ _ _ _ _ _ _ _ (e (next s Zero)) (e (next s One)) (k s Zero) (k s One)
  where
    less : (a b x y p q u v : ℤ) → a ≡ x -ℤ c → b ≡ y -ℤ c → u ≡ p → v ≡ q → int_max (p +ℤ a) (q +ℤ b) ≡ int_max (u +ℤ x) (v +ℤ y) -ℤ c
    less a b x y p q u v e f h k = omega (arith, ints, clamps)

pub forward-row : (start : Border) (g : Gain) (j : ℕ) (m k : List ℤ) (x p : ℤ) → IsForwardRow start g j m → Earns g j x p
    → k ≡ relative (forward (number_for m) (step_gain x p)) → IsForwardRow start g (j + 1) k
forward-row start g j m k x p h a e = record {
  metrics = forward h.metrics (g j);
  greatest = subst (λ n. IsForward (number_for start) g n (forward h.metrics (g j))) (let n : suc j ≡ j + 1 = omega arith in n) (forward_more (number_for start) g j h.metrics h.greatest);
  is =
      e ∙ relative-less (forward (number_for m) (step_gain x p)) (forward h.metrics (g j)) (h.metrics zero_state)
      (λ s. step-less (number_for m) h.metrics (step_gain x p) (g j) (h.metrics zero_state) s (number-relative m h.metrics h.is) a.is);
}

pub forward-relative : (start : Border) (g : Gain) (j : ℕ) (m : List ℤ) → IsBorder start → ((i : ℕ) → i < j → IsNarrow g i) → IsForwardRow start g j m → IsRelative m
forward-relative start g j m b narrow h = row-relative m h.metrics h.is (forward-spread (number_for start) g j h.metrics b.spread narrow h.greatest)

pub forward_passed : (start : Border) (g : Gain) (j : ℕ) (m : List ℤ) → IsBorder start → ((i : ℕ) → i < j → IsNarrow g i) → IsForwardRow start g j m → IsForwardRow start g j (passed m)
forward_passed start g j m b narrow h = subst (λ (row : List ℤ). IsForwardRow start g j row) (sym (passed-relative m (forward-relative start g j m b narrow h))) h

-- ---- backward

pub backward_first : (end : Border) (g : Gain) (n : ℕ) (m : List ℤ) → m ≡ end → IsBorder end → IsBackwardRow end g n 0 m
backward_first end g n m e h = record { metrics = number_for end; greatest = backward_none (number_for end) g n; is = e ∙ border-relative end h }

pub backward-row : (end : Border) (g : Gain) (j n : ℕ) (m k : List ℤ) (x p : ℤ) → IsBackwardRow end g (suc j) n m → Earns g j x p
    → k ≡ relative (backward (number_for m) (step_gain x p)) → IsBackwardRow end g j (n + 1) k
backward-row end g j n m k x p h a e = record {
  metrics = backward h.metrics (g j);
  greatest = subst (λ i. IsBackward (number_for end) g j i (backward h.metrics (g j))) (let i : suc n ≡ n + 1 = omega arith in i) (backward_more (number_for end) g j n h.metrics h.greatest);
  is =
      e ∙ relative-less (backward (number_for m) (step_gain x p)) (backward h.metrics (g j)) (h.metrics zero_state)
      (λ s. back-less (number_for m) h.metrics (step_gain x p) (g j) (h.metrics zero_state) s (number-relative m h.metrics h.is) a.is);
}

pub backward-relative : (end : Border) (g : Gain) (j n : ℕ) (m : List ℤ) → IsBorder end → ((i : ℕ) → i < j + n → IsNarrow g i) → IsBackwardRow end g j n m → IsRelative m
backward-relative end g j n m b narrow h = row-relative m h.metrics h.is (backward-spread (number_for end) g j n h.metrics b.spread narrow h.greatest)

pub backward_passed : (end : Border) (g : Gain) (j n : ℕ) (m : List ℤ) → IsBorder end → ((i : ℕ) → i < j + n → IsNarrow g i) → IsBackwardRow end g j n m → IsBackwardRow end g j n (passed m)
backward_passed end g j n m b narrow h = subst (λ (row : List ℤ). IsBackwardRow end g j n row) (sym (passed-relative m (backward-relative end g j n m b narrow h))) h

-- ---- the new cell

-- the greatest of numbers that are less by the same
greatest-less : (f h : State → ℤ) (c : ℤ) → ((s : State) → f s ≡ h s -ℤ c) → greatest (border_of f) ≡ greatest (border_of h) -ℤ c
greatest-less f h c e =
    let x = states-attained f in let y = states-attained h in
    less _ _ (f x.0) (h x.0) (f y.0) (h y.0) x.1 y.1 (e x.0) (e y.0) (states-bound h x.0) (states-bound f y.0)
  where
    less : (p q a b d k : ℤ) → p ≡ a → q ≡ k → a ≡ b -ℤ c → d ≡ k -ℤ c → b ≤ℤ q → d ≤ℤ p → p ≡ q -ℤ c
    less p q a b d k e1 e2 e3 e4 l1 l2 = omega (arith, ints)

through-less : (m k : State → ℤ) (before after : List ℤ) (p : ℤ) (b : Bit) → before ≡ relative m → after ≡ relative k
    → through before after p b ≡ greatest (border_of (joined m k p b)) -ℤ (m zero_state +ℤ k zero_state)
through-less m k before after p b e f =
    greatest-less (joined (number_for before) (number_for after) p b) (joined m k p b) (m zero_state +ℤ k zero_state)
    (λ s. less _ _ (m s) (k (next s b)) (m zero_state) (k zero_state) (if_zero (parity s b) p) (number-relative before m e s) (number-relative after k f (next s b)))
  where
    less : (x y a d u v q : ℤ) → x ≡ a -ℤ u → y ≡ d -ℤ v → x +ℤ q +ℤ y ≡ (a +ℤ q +ℤ d) -ℤ (u +ℤ v)
    less x y a d u v q e f = omega (arith, ints)

pub cell-best : (w : Window) (j n : ℕ) (before after : List ℤ) → width w ≡ j + suc n → IsForwardRow w.start (gain w) j before → IsBackwardRow w.end (gain w) (suc j) n after
    → cell_through before after (at w.sys j) (at w.par j) (at w.cells j) ≡ new_cell w j
cell-best w j n before after long h k =
    let c : ℤ = h.metrics zero_state +ℤ k.metrics zero_state in
    let e : (b : Bit) → through before after (at w.par j) b ≡ best w b j -ℤ c =
    λ b. through-less h.metrics k.metrics before after (at w.par j) b h.is k.is ∙ ap (λ z. z -ℤ c) (joined-best w j n b h.metrics k.metrics long h.greatest k.greatest) in
    ap (λ z. cell_from z (at w.sys j) (at w.cells j)) (cancel _ _ (best w Zero j) (best w One j) c (e Zero) (e One))
  where
    cancel : (a b x y c : ℤ) → a ≡ x -ℤ c → b ≡ y -ℤ c → a -ℤ b ≡ x -ℤ y
    cancel a b x y c e f = omega (arith, ints)

pub cell-joined : (start end : Border) (sys par : List ℤ) (cells : List Extrinsic) (j n : ℕ) (before after : List ℤ)
    → length (values cells) ≡ j + suc n → IsForwardRow start (gain (window_between start end sys par cells)) j before
    → IsBackwardRow end (gain (window_between start end sys par cells)) (suc j) n after
    → cell_through before after (at sys j) (at par j) (cell_at cells j).value ≡ new_cell (window_between start end sys par cells) j
cell-joined start end sys par cells j n before after long h k =
    ap (λ z. cell_through before after (at sys j) (at par j) z) (sym (at-values cells j)) ∙ cell-best (window_between start end sys par cells) j n before after long h k
