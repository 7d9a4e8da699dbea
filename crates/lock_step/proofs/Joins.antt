-- How the metrics before and after a position join.
use Rattle.std.proofs.Common.{◌≡◌, ℕ, ◌<◌, List, [], ◌∷◌, length, map, ℤ, pos, ◌+ℤ◌, refl, sym, ap, ◌∙◌, subst, arith}
use Rattle.std.specs.Prelude.{slice_index_or}
use Rattle.std.specs.Int.{int_max}
use Rattle.std.proofs.lemmas.Int.{ints, clamps}
use Rattle.std.proofs.lemmas.List.{get_or-map, length-map}
use Rattle.lte_bits.specs.declared.bit.Bit.{Bit}
use Rattle.lte_bits.specs.declared.bit.Bit.TheVariants.{Zero, One}
use Rattle.model_sender.specs.ConstituentCoder.{State, zero_state, state_number, next}
use Rattle.model_receiver.specs.Borders.{number_for, at}
use Rattle.model_receiver.specs.Paths.{greatest}
use Rattle.window_decode.specs.Recursions.{joined, through}
use Rattle.window_rows.specs.Rows.{row_at, column}
use Rattle.lock_step.specs.Branches.{states_with, branches, best_along}
use Rattle.lock_step.specs.Vectors.{IsVector, AreRelative}
use Rattle.lock_step.proofs.StateRows.{s0, s1, s2, s3, s4, s5, s6, s7, number-column, row-vector}

-- ---- the greatest of four and of eight

max-assoc : (x y z : ℤ) → int_max (int_max x y) z ≡ int_max x (int_max y z)
max-assoc x y z = omega (arith, ints, clamps)

max-swap : (x y z : ℤ) → int_max (int_max x y) z ≡ int_max (int_max x z) y
max-swap x y z = omega (arith, ints, clamps)

max-comm : (x y : ℤ) → int_max x y ≡ int_max y x
max-comm x y = omega (arith, ints, clamps)

abbrev of_four : (a b c d : ℤ) → ℤ
of_four a b c d = int_max (int_max a b) (int_max c d)

abbrev in_turn : (a b c d : ℤ) → ℤ
in_turn a b c d = int_max (int_max (int_max a b) c) d

abbrev of_eight : (a b c d e f g h : ℤ) → ℤ
of_eight a b c d e f g h = int_max (int_max (int_max (int_max (in_turn a b c d) e) f) g) h

-- the greatest of eight by the outer and the inner four
by_fours : (a b c d e f g h : ℤ) → int_max (of_four a b g h) (of_four c d e f) ≡ of_eight a b c d e f g h
by_fours a b c d e f g h =
    let u : ℤ = int_max a b in
    sym
    (max-assoc (int_max (int_max (int_max (int_max u c) d) e) f) g h
    ∙ (ap (λ z. int_max z (int_max g h)) (max-assoc (int_max (int_max u c) d) e f ∙ (ap (λ z. int_max z (int_max e f)) (max-assoc u c d) ∙ max-assoc u (int_max c d) (int_max e f)))
    ∙ max-swap u (of_four c d e f) (int_max g h)))

greatest-four : (xs : List ℤ) → length xs ≡ 4 → greatest xs ≡ of_four (at xs 0) (at xs 1) (at xs 2) (at xs 3)
greatest-four [] l = absurd (omega (arith, l))
greatest-four (a ∷ []) l = absurd (omega (arith, l))
greatest-four (a ∷ b ∷ []) l = absurd (omega (arith, l))
greatest-four (a ∷ b ∷ c ∷ []) l = absurd (omega (arith, l))
greatest-four (a ∷ b ∷ c ∷ d ∷ []) l = max-assoc (int_max a b) c d
greatest-four (a ∷ b ∷ c ∷ d ∷ e ∷ xs) l = absurd (omega (arith, l))

-- ---- four branches, as a list has them

four-states : (u r : Bit) → length (states_with u r) ≡ 4
four-states Zero Zero = refl
four-states Zero One = refl
four-states One Zero = refl
four-states One One = refl

abbrev branch : Bit → State → ℕ × ℕ
branch u s = (state_number s, state_number (next s u))

abbrev state_of : (u r : Bit) → ℕ → State
state_of u r i = slice_index_or (states_with u r) i zero_state

branch-of_state : (u r : Bit) (bs : List (ℕ × ℕ)) (i : ℕ) → i < 4 → bs ≡ branches u r → slice_index_or bs i (0, 0) ≡ branch u (state_of u r i)
branch-of_state u r bs i lt e =
    ap (λ (xs : List (ℕ × ℕ)). slice_index_or xs i (0, 0)) e ∙ get_or-map (branch u) (states_with u r) i zero_state (0, 0) (let four = four-states u r in omega (arith, lt, four))

-- the rows of the states before and after branch i
pub branch-rows : (n : ℕ) (alpha beta : List (List ℤ)) (u r : Bit) (bs : List (ℕ × ℕ)) → AreRelative n alpha → AreRelative n beta → bs ≡ branches u r → (i : ℕ) → i < 4
    → (let b = slice_index_or bs i (0, 0) in IsVector n 6391 (row_at alpha b.0) × IsVector n 6391 (row_at beta b.1))
branch-rows n alpha beta u r bs h k e i lt =
    subst (λ (b : ℕ × ℕ). IsVector n 6391 (row_at alpha b.0) × IsVector n 6391 (row_at beta b.1)) (sym (branch-of_state u r bs i lt e))
    (row-vector n alpha h (state_of u r i), row-vector n beta k (next (state_of u r i) u))

-- the sum of the metrics before and after branch i in lane t
abbrev sum_along : (t : ℕ) → (alpha beta : List (List ℤ)) → List (ℕ × ℕ) → ℕ → ℤ
sum_along t alpha beta bs i = let b = slice_index_or bs i (0, 0) in at (row_at alpha b.0) t +ℤ at (row_at beta b.1) t

pub along-lane : (t : ℕ) (alpha beta : List (List ℤ)) (u r : Bit) (bs : List (ℕ × ℕ)) → length alpha ≡ 8 → length beta ≡ 8 → bs ≡ branches u r
    → of_four (sum_along t alpha beta bs 0) (sum_along t alpha beta bs 1) (sum_along t alpha beta bs 2) (sum_along t alpha beta bs 3)
    ≡ best_along u r (column t alpha) (column t beta)
along-lane t alpha beta u r bs l k e =
    same_four _ _ _ _ _ _ _ _ (sum-is 0 (omega arith)) (sum-is 1 (omega arith)) (sum-is 2 (omega arith)) (sum-is 3 (omega arith))
    ∙ sym (greatest-four (map sum (states_with u r)) (length-map (states_with u r) sum ∙ four-states u r))
  where
    sum : State → ℤ
    sum s = number_for (column t alpha) s +ℤ number_for (column t beta) (next s u)

    same_four : (a b c d a' b' c' d' : ℤ) → a ≡ a' → b ≡ b' → c ≡ c' → d ≡ d' → of_four a b c d ≡ of_four a' b' c' d'
    same_four a b c d a' b' c' d' p q r s = cc

    same_sum : (a b a' b' : ℤ) → a' ≡ a → b' ≡ b → a +ℤ b ≡ a' +ℤ b'
    same_sum a b a' b' p q = cc

    sum-is : (i : ℕ) → i < 4 → sum_along t alpha beta bs i ≡ at (map sum (states_with u r)) i
    sum-is i lt =
        let s : State = state_of u r i in
        ap (λ (b : ℕ × ℕ). at (row_at alpha b.0) t +ℤ at (row_at beta b.1) t) (branch-of_state u r bs i lt e)
        ∙ (same_sum _ _ _ _ (number-column alpha t s l) (number-column beta t (next s u) k)
        ∙ sym (get_or-map sum (states_with u r) i zero_state (pos 0) (let four = four-states u r in omega (arith, lt, four))))

-- ---- the branches that earn what a parity bit 0 earns, and the others

-- four of which each earns p, as they are computed and as they are wanted
earning : (m0 m1 m2 m3 k0 k1 k2 k3 p : ℤ) → in_turn (m0 +ℤ k0) (m1 +ℤ k1) (m2 +ℤ k2) (m3 +ℤ k3) +ℤ p
    ≡ of_four (m0 +ℤ p +ℤ k0) (m1 +ℤ p +ℤ k1) (m2 +ℤ p +ℤ k2) (m3 +ℤ p +ℤ k3)
earning m0 m1 m2 m3 k0 k1 k2 k3 p =
    ap (λ z. z +ℤ p) (max-assoc (int_max (m0 +ℤ k0) (m1 +ℤ k1)) (m2 +ℤ k2) (m3 +ℤ k3))
    ∙ (both (int_max (m0 +ℤ k0) (m1 +ℤ k1)) (int_max (m2 +ℤ k2) (m3 +ℤ k3)) p
    ∙ (ap (λ z. int_max z (int_max (m2 +ℤ k2) (m3 +ℤ k3) +ℤ p)) (two m0 m1 k0 k1 p) ∙ ap (λ z. int_max (int_max (m0 +ℤ p +ℤ k0) (m1 +ℤ p +ℤ k1)) z) (two m2 m3 k2 k3 p)))
  where
    both : (x y p : ℤ) → int_max x y +ℤ p ≡ int_max (x +ℤ p) (y +ℤ p)
    both x y p = omega (arith, ints, clamps)

    two : (m n k l p : ℤ) → int_max (m +ℤ k) (n +ℤ l) +ℤ p ≡ int_max (m +ℤ p +ℤ k) (n +ℤ p +ℤ l)
    two m n k l p = omega (arith, ints, clamps)

idle : (m0 m1 m2 m3 k0 k1 k2 k3 : ℤ) → in_turn (m0 +ℤ k0) (m1 +ℤ k1) (m2 +ℤ k2) (m3 +ℤ k3)
    ≡ of_four (m0 +ℤ pos 0 +ℤ k0) (m1 +ℤ pos 0 +ℤ k1) (m2 +ℤ pos 0 +ℤ k2) (m3 +ℤ pos 0 +ℤ k3)
idle m0 m1 m2 m3 k0 k1 k2 k3 =
    max-assoc (int_max (m0 +ℤ k0) (m1 +ℤ k1)) (m2 +ℤ k2) (m3 +ℤ k3)
    ∙ (ap (λ z. int_max z (int_max (m2 +ℤ k2) (m3 +ℤ k3))) (two m0 m1 k0 k1) ∙ ap (λ z. int_max (int_max (m0 +ℤ pos 0 +ℤ k0) (m1 +ℤ pos 0 +ℤ k1)) z) (two m2 m3 k2 k3))
  where
    two : (m n k l : ℤ) → int_max (m +ℤ k) (n +ℤ l) ≡ int_max (m +ℤ pos 0 +ℤ k) (n +ℤ pos 0 +ℤ l)
    two m n k l = omega (arith, ints, clamps)

-- by the input 0 the outer states have the parity bit 0, by the input 1 the inner ones
pub joined-lane : (u : Bit) (alpha beta : List ℤ) (p : ℤ) → int_max (best_along u Zero alpha beta +ℤ p) (best_along u One alpha beta) ≡ through alpha beta p u
joined-lane Zero alpha beta p =
    let m : State → ℤ = number_for alpha in
    let k : State → ℤ = λ s. number_for beta (next s Zero) in
    let j : State → ℤ = joined m (number_for beta) p Zero in
    ap (λ z. int_max z (best_along Zero One alpha beta)) (earning (m s0) (m s1) (m s6) (m s7) (k s0) (k s1) (k s6) (k s7) p)
    ∙ (ap (λ z. int_max (of_four (j s0) (j s1) (j s6) (j s7)) z) (idle (m s2) (m s3) (m s4) (m s5) (k s2) (k s3) (k s4) (k s5))
    ∙ by_fours (j s0) (j s1) (j s2) (j s3) (j s4) (j s5) (j s6) (j s7))
joined-lane One alpha beta p =
    let m : State → ℤ = number_for alpha in
    let k : State → ℤ = λ s. number_for beta (next s One) in
    let j : State → ℤ = joined m (number_for beta) p One in
    ap (λ z. int_max z (best_along One One alpha beta)) (earning (m s2) (m s3) (m s4) (m s5) (k s2) (k s3) (k s4) (k s5) p)
    ∙ (ap (λ z. int_max (of_four (j s2) (j s3) (j s4) (j s5)) z) (idle (m s0) (m s1) (m s6) (m s7) (k s0) (k s1) (k s6) (k s7))
    ∙ (max-comm (of_four (j s2) (j s3) (j s4) (j s5)) (of_four (j s0) (j s1) (j s6) (j s7)) ∙ by_fours (j s0) (j s1) (j s2) (j s3) (j s4) (j s5) (j s6) (j s7)))
