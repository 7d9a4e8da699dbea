-- The recursions lane by lane.
use Rattle.std.proofs.Common.{◌≡◌, ℕ, List, [], ◌∷◌, length, ℤ, pos, ◌+ℤ◌, ◌-ℤ◌, sym, ◌∙◌, arith}
use Rattle.std.specs.Int.{int_max}
use Rattle.std.proofs.lemmas.Int.{ints, clamps}
use Rattle.model_sender.specs.ConstituentCoder.{State, zero_state}
use Rattle.model_receiver.specs.Borders.{number_for, relative, at}
use Rattle.window_decode.specs.Recursions.{step_gain, forward, backward}
use Rattle.window_decode.proofs.EightStates.{same_eight}
use Rattle.window_rows.specs.Rows.{row_at, column}
use Rattle.lock_step.proofs.StateRows.{s0, s1, s2, s3, s4, s5, s6, s7, number-column}

-- lane t of r is the greater of two sums, less the base
abbrev pub IsNext : ℕ → (a x b y base r : List ℤ) → Type 0
IsNext t a x b y base r = at r t ≡ int_max (at a t +ℤ at x t) (at b t +ℤ at y t) -ℤ at base t

-- what steps earn in lane t: by neither bit, by the input bit, by the parity bit, by both
record Gains (t : ℕ) (x p none both : List ℤ) : Type 0 where
  by_none : pos 0 +ℤ pos 0 ≡ at none t
  by_input : at x t +ℤ pos 0 ≡ at x t
  by_parity : pos 0 +ℤ at p t ≡ at p t
  by_both : at x t +ℤ at p t ≡ at both t

gains : (t : ℕ) (x p none both : List ℤ) → at none t ≡ pos 0 → at both t ≡ at x t +ℤ at p t → Gains t x p none both
gains t x p none both e f = record { by_none = sym e; by_input = right (at x t); by_parity = left (at p t); by_both = sym f }
  where
    right : (x : ℤ) → x +ℤ pos 0 ≡ x
    right x = omega (arith, ints)

    left : (x : ℤ) → pos 0 +ℤ x ≡ x
    left x = omega (arith, ints)

-- a number as it was computed, and as it is wanted
in_step : (r a x b y base a' x' b' y' f : ℤ) → r ≡ int_max (a +ℤ x) (b +ℤ y) -ℤ base → a' ≡ a → x' ≡ x → b' ≡ b → y' ≡ y → f ≡ base → r ≡ int_max (a' +ℤ x') (b' +ℤ y') -ℤ f
in_step r a x b y base a' x' b' y' f e ea ex eb ey ef = cc

out_step : (r a x b y base a' x' b' y' f : ℤ) → r ≡ int_max (a +ℤ x) (b +ℤ y) -ℤ base → a' ≡ a → x' ≡ x → b' ≡ b → y' ≡ y → f ≡ base → r ≡ int_max (x' +ℤ a') (y' +ℤ b') -ℤ f
out_step r a x b y base a' x' b' y' f e ea ex eb ey ef =
    in_step r a x b y base a' x' b' y' f e ea ex eb ey ef ∙ turned a' x' b' y' f
  where
    turned : (a x b y f : ℤ) → int_max (a +ℤ x) (b +ℤ y) -ℤ f ≡ int_max (x +ℤ a) (y +ℤ b) -ℤ f
    turned a x b y f = omega (arith, ints, clamps)

in_base : (a x b y base a' x' b' y' : ℤ) → base ≡ int_max (a +ℤ x) (b +ℤ y) → a' ≡ a → x' ≡ x → b' ≡ b → y' ≡ y → int_max (a' +ℤ x') (b' +ℤ y') ≡ base
in_base a x b y base a' x' b' y' e ea ex eb ey = cc

out_base : (a x b y base a' x' b' y' : ℤ) → base ≡ int_max (a +ℤ x) (b +ℤ y) → a' ≡ a → x' ≡ x → b' ≡ b → y' ≡ y → int_max (x' +ℤ a') (y' +ℤ b') ≡ base
out_base a x b y base a' x' b' y' e ea ex eb ey = turned a' x' b' y' ∙ in_base a x b y base a' x' b' y' e ea ex eb ey
  where
    turned : (a x b y : ℤ) → int_max (x +ℤ a) (y +ℤ b) ≡ int_max (a +ℤ x) (b +ℤ y)
    turned a x b y = omega (arith, ints, clamps)

pub forward-lane : (t : ℕ) (m : List (List ℤ)) (x p none both base r0 r1 r2 r3 r4 r5 r6 r7 : List ℤ) → length m ≡ 8 → at none t ≡ pos 0 → at both t ≡ at x t +ℤ at p t
    → at base t ≡ int_max (at (row_at m 0) t +ℤ at both t) (at (row_at m 1) t +ℤ at none t)
    → IsNext t (row_at m 0) both (row_at m 1) none base r0 → IsNext t (row_at m 2) p (row_at m 3) x base r1
    → IsNext t (row_at m 4) x (row_at m 5) p base r2 → IsNext t (row_at m 6) none (row_at m 7) both base r3
    → IsNext t (row_at m 0) none (row_at m 1) both base r4 → IsNext t (row_at m 2) x (row_at m 3) p base r5
    → IsNext t (row_at m 4) p (row_at m 5) x base r6 → IsNext t (row_at m 6) both (row_at m 7) none base r7
    → column t (r0 ∷ r1 ∷ r2 ∷ r3 ∷ r4 ∷ r5 ∷ r6 ∷ r7 ∷ []) ≡ relative (forward (number_for (column t m)) (step_gain (at x t) (at p t)))
forward-lane t m x p none both base r0 r1 r2 r3 r4 r5 r6 r7 long e f h q0 q1 q2 q3 q4 q5 q6 q7 =
    let g = gains t x p none both e f in
    let n : (s : State) → number_for (column t m) s ≡ _ = λ s. number-column m t s long in
    let to : State → ℤ = forward (number_for (column t m)) (step_gain (at x t) (at p t)) in
    let b : to zero_state ≡ at base t = in_base _ _ _ _ (at base t) _ _ _ _ h (n s0) g.by_both (n s1) g.by_none in
    same_eight (λ s. to s -ℤ to zero_state) _ _ _ _ _ _ _ _
    (in_step _ _ _ _ _ _ _ _ _ _ _ q0 (n s0) g.by_both (n s1) g.by_none b) (in_step _ _ _ _ _ _ _ _ _ _ _ q1 (n s2) g.by_parity (n s3) g.by_input b)
    (in_step _ _ _ _ _ _ _ _ _ _ _ q2 (n s4) g.by_input (n s5) g.by_parity b) (in_step _ _ _ _ _ _ _ _ _ _ _ q3 (n s6) g.by_none (n s7) g.by_both b)
    (in_step _ _ _ _ _ _ _ _ _ _ _ q4 (n s0) g.by_none (n s1) g.by_both b) (in_step _ _ _ _ _ _ _ _ _ _ _ q5 (n s2) g.by_input (n s3) g.by_parity b)
    (in_step _ _ _ _ _ _ _ _ _ _ _ q6 (n s4) g.by_parity (n s5) g.by_input b) (in_step _ _ _ _ _ _ _ _ _ _ _ q7 (n s6) g.by_both (n s7) g.by_none b)

pub backward-lane : (t : ℕ) (m : List (List ℤ)) (x p none both base r0 r1 r2 r3 r4 r5 r6 r7 : List ℤ) → length m ≡ 8 → at none t ≡ pos 0 → at both t ≡ at x t +ℤ at p t
    → at base t ≡ int_max (at (row_at m 0) t +ℤ at both t) (at (row_at m 4) t +ℤ at none t)
    → IsNext t (row_at m 0) both (row_at m 4) none base r0 → IsNext t (row_at m 4) both (row_at m 0) none base r1
    → IsNext t (row_at m 5) x (row_at m 1) p base r2 → IsNext t (row_at m 1) x (row_at m 5) p base r3
    → IsNext t (row_at m 2) x (row_at m 6) p base r4 → IsNext t (row_at m 6) x (row_at m 2) p base r5
    → IsNext t (row_at m 7) both (row_at m 3) none base r6 → IsNext t (row_at m 3) both (row_at m 7) none base r7
    → column t (r0 ∷ r1 ∷ r2 ∷ r3 ∷ r4 ∷ r5 ∷ r6 ∷ r7 ∷ []) ≡ relative (backward (number_for (column t m)) (step_gain (at x t) (at p t)))
backward-lane t m x p none both base r0 r1 r2 r3 r4 r5 r6 r7 long e f h q0 q1 q2 q3 q4 q5 q6 q7 =
    let g = gains t x p none both e f in
    let n : (s : State) → number_for (column t m) s ≡ _ = λ s. number-column m t s long in
    let from : State → ℤ = backward (number_for (column t m)) (step_gain (at x t) (at p t)) in
    let b : from zero_state ≡ at base t = out_base _ _ _ _ (at base t) _ _ _ _ h (n s0) g.by_both (n s4) g.by_none in
    same_eight (λ s. from s -ℤ from zero_state) _ _ _ _ _ _ _ _
    (out_step _ _ _ _ _ _ _ _ _ _ _ q0 (n s0) g.by_both (n s4) g.by_none b) (out_step _ _ _ _ _ _ _ _ _ _ _ q1 (n s4) g.by_both (n s0) g.by_none b)
    (out_step _ _ _ _ _ _ _ _ _ _ _ q2 (n s5) g.by_input (n s1) g.by_parity b) (out_step _ _ _ _ _ _ _ _ _ _ _ q3 (n s1) g.by_input (n s5) g.by_parity b)
    (out_step _ _ _ _ _ _ _ _ _ _ _ q4 (n s2) g.by_input (n s6) g.by_parity b) (out_step _ _ _ _ _ _ _ _ _ _ _ q5 (n s6) g.by_input (n s2) g.by_parity b)
    (out_step _ _ _ _ _ _ _ _ _ _ _ q6 (n s7) g.by_both (n s3) g.by_none b) (out_step _ _ _ _ _ _ _ _ _ _ _ q7 (n s3) g.by_both (n s7) g.by_none b)
