-- Eight rows of N lanes as the metrics of N windows.
use Rattle.std.proofs.Common.{◌≡◌, ℕ, ◌<◌, List, [], ◌∷◌, length, set, replicate, ℤ, pos, refl, sym, ap, ◌∙◌, subst, arith}
use Rattle.std.proofs.lemmas.List.{get_or-map, get_or-replicate, length-replicate}
use Rattle.std.proofs.lemmas.Int.{ints}
use Rattle.lte_bits.specs.Softs.{IsWithin}
use Rattle.lte_bits.specs.declared.bit.Bit.{Bit}
use Rattle.lte_bits.specs.declared.bit.Bit.TheVariants.{Zero, One}
use Rattle.model_sender.specs.ConstituentCoder.{State, state_number}
use Rattle.model_receiver.specs.Borders.{state, number_for, at}
use Rattle.window_decode.proofs.Within.{within-same}
use Rattle.window_decode.proofs.EightStates.{by_eight}
use Rattle.window_decode.proofs.LaneKernel.{relative-numbers}
use Rattle.window_rows.specs.Rows.{row_at, column}
use Rattle.lock_step.specs.Vectors.{IsVector, AreRelative}
use Rattle.lock_step.proofs.Vectors.{vector_from, vector_passed, vector-still}
use Rattle.window_decode.proofs.LaneNumbers.{passed}

-- the states by their numbers
abbrev pub s0 : State
s0 = state Zero Zero Zero

abbrev pub s1 : State
s1 = state Zero Zero One

abbrev pub s2 : State
s2 = state Zero One Zero

abbrev pub s3 : State
s3 = state Zero One One

abbrev pub s4 : State
s4 = state One Zero Zero

abbrev pub s5 : State
s5 = state One Zero One

abbrev pub s6 : State
s6 = state One One Zero

abbrev pub s7 : State
s7 = state One One One

number-below : (s : State) → state_number s < 8
number-below s = by_bits s.a1 s.a2 s.a3
  where
    by_bits : (a b c : Bit) → state_number (state a b c) < 8
    by_bits Zero Zero Zero = omega arith
    by_bits Zero Zero One = omega arith
    by_bits Zero One Zero = omega arith
    by_bits Zero One One = omega arith
    by_bits One Zero Zero = omega arith
    by_bits One Zero One = omega arith
    by_bits One One Zero = omega arith
    by_bits One One One = omega arith

pub at-column : (rows : List (List ℤ)) (t k : ℕ) → k < length rows → at (column t rows) k ≡ at (row_at rows k) t
at-column rows t k lt = get_or-map (λ (row : List ℤ). at row t) rows k [] (pos 0) lt

-- what a state's row has in lane t is the number of the state
pub number-column : (m : List (List ℤ)) (t : ℕ) (s : State) → length m ≡ 8 → number_for (column t m) s ≡ at (row_at m (state_number s)) t
number-column m t s long = at-column m t (state_number s) (let below = number-below s in omega (arith, below, long))

pub row-vector : (n : ℕ) (m : List (List ℤ)) → AreRelative n m → (s : State) → IsVector n 6391 (row_at m (state_number s))
row-vector n m h s =
    vector_from n 6391 (row_at m (state_number s)) (h.shape.long (state_number s) (number-below s))
    (λ t lt. within-same 6391 _ _ (sym (number-column m t s h.shape.eight)) ((relative-numbers (column t m) (h.relative t lt)).bounded s))

pub nothing-vector : (n b : ℕ) → IsVector n b (replicate n (pos 0))
nothing-vector n b = vector_from n b (replicate n (pos 0)) (length-replicate n (pos 0)) (λ t lt. within-same b _ (pos 0) (get_or-replicate n t (pos 0) (pos 0) lt) nothing)
  where
    nothing : IsWithin b (pos 0)
    nothing = (omega (arith, ints), omega (arith, ints))

pub at-nothing : (n t : ℕ) → t < n → at (replicate n (pos 0)) t ≡ pos 0
at-nothing n t lt = get_or-replicate n t (pos 0) (pos 0) lt

-- eight rows by its elements
pub eight_rows : (P : List (List ℤ) → Type 0) → ((a b c d e f g h : List ℤ) → P (a ∷ b ∷ c ∷ d ∷ e ∷ f ∷ g ∷ h ∷ [])) → (m : List (List ℤ)) → length m ≡ 8 → P m
eight_rows P each [] l = absurd (omega (arith, l))
eight_rows P each (a ∷ []) l = absurd (omega (arith, l))
eight_rows P each (a ∷ b ∷ []) l = absurd (omega (arith, l))
eight_rows P each (a ∷ b ∷ c ∷ []) l = absurd (omega (arith, l))
eight_rows P each (a ∷ b ∷ c ∷ d ∷ []) l = absurd (omega (arith, l))
eight_rows P each (a ∷ b ∷ c ∷ d ∷ e ∷ []) l = absurd (omega (arith, l))
eight_rows P each (a ∷ b ∷ c ∷ d ∷ e ∷ f ∷ []) l = absurd (omega (arith, l))
eight_rows P each (a ∷ b ∷ c ∷ d ∷ e ∷ f ∷ g ∷ []) l = absurd (omega (arith, l))
eight_rows P each (a ∷ b ∷ c ∷ d ∷ e ∷ f ∷ g ∷ h ∷ []) l = each a b c d e f g h
eight_rows P each (a ∷ b ∷ c ∷ d ∷ e ∷ f ∷ g ∷ h ∷ i ∷ xs) l = absurd (omega (arith, l))

-- eight rows that are written one by one
pub set_eight : (m : List (List ℤ)) (r0 r1 r2 r3 r4 r5 r6 r7 : List ℤ) → length m ≡ 8
    → set (set (set (set (set (set (set (set m 0 r0) 1 r1) 2 r2) 3 r3) 4 r4) 5 r5) 6 r6) 7 r7 ≡ r0 ∷ r1 ∷ r2 ∷ r3 ∷ r4 ∷ r5 ∷ r6 ∷ r7 ∷ []
set_eight m r0 r1 r2 r3 r4 r5 r6 r7 long =
    eight_rows (λ m. set (set (set (set (set (set (set (set m 0 r0) 1 r1) 2 r2) 3 r3) 4 r4) 5 r5) 6 r6) 7 r7 ≡ r0 ∷ r1 ∷ r2 ∷ r3 ∷ r4 ∷ r5 ∷ r6 ∷ r7 ∷ [])
    (λ a b c d e f g h. refl) m long

-- rows that were copied
pub rows_kept : (m : List (List ℤ)) (r0 r1 r2 r3 r4 r5 r6 r7 : List ℤ) → length m ≡ 8 → r0 ≡ row_at m 0 → r1 ≡ row_at m 1 → r2 ≡ row_at m 2 → r3 ≡ row_at m 3
    → r4 ≡ row_at m 4 → r5 ≡ row_at m 5 → r6 ≡ row_at m 6 → r7 ≡ row_at m 7 → r0 ∷ r1 ∷ r2 ∷ r3 ∷ r4 ∷ r5 ∷ r6 ∷ r7 ∷ [] ≡ m
rows_kept m r0 r1 r2 r3 r4 r5 r6 r7 long =
    eight_rows (λ m. r0 ≡ row_at m 0 → r1 ≡ row_at m 1 → r2 ≡ row_at m 2 → r3 ≡ row_at m 3 → r4 ≡ row_at m 4 → r5 ≡ row_at m 5 → r6 ≡ row_at m 6
    → r7 ≡ row_at m 7 → r0 ∷ r1 ∷ r2 ∷ r3 ∷ r4 ∷ r5 ∷ r6 ∷ r7 ∷ [] ≡ m)
    (λ a b c d e f g h p0 p1 p2 p3 p4 p5 p6 p7. same a b c d e f g h p0 p1 p2 p3 p4 p5 p6 p7) m long
  where
    same : (a b c d e f g h : List ℤ) → r0 ≡ a → r1 ≡ b → r2 ≡ c → r3 ≡ d → r4 ≡ e → r5 ≡ f → r6 ≡ g → r7 ≡ h → r0 ∷ r1 ∷ r2 ∷ r3 ∷ r4 ∷ r5 ∷ r6 ∷ r7 ∷ [] ≡ a ∷ b ∷ c ∷ d ∷ e ∷ f ∷ g ∷ h ∷ []
    same a b c d e f g h p0 p1 p2 p3 p4 p5 p6 p7 = cc

-- a row that was loaded, as it is stored
pub copied : (n : ℕ) (x l r : List ℤ) → IsVector n 6391 x → l ≡ x → r ≡ passed l → r ≡ x
copied n x l r h e f = f ∙ (ap passed e ∙ vector_passed n 6391 x (omega arith) h)

pub loaded-still : (n : ℕ) (x l : List ℤ) → IsVector n 6391 x → l ≡ x → IsVector n 32767 (passed l)
loaded-still n x l h e = subst (λ (ys : List ℤ). IsVector n 32767 (passed ys)) (sym e) (vector-still n 6391 32767 x (omega arith) (omega arith) h)

-- lane t of eight rows, row by row
pub eight-column : (m : List (List ℤ)) (t : ℕ) → length m ≡ 8
    → at (row_at m 0) t ∷ at (row_at m 1) t ∷ at (row_at m 2) t ∷ at (row_at m 3) t ∷ at (row_at m 4) t ∷ at (row_at m 5) t ∷ at (row_at m 6) t ∷ at (row_at m 7) t ∷ [] ≡ column t m
eight-column m t long =
    eight_rows (λ m. at (row_at m 0) t ∷ at (row_at m 1) t ∷ at (row_at m 2) t ∷ at (row_at m 3) t ∷ at (row_at m 4) t ∷ at (row_at m 5) t ∷ at (row_at m 6) t ∷ at (row_at m 7) t ∷ [] ≡ column t m)
    (λ a b c d e f g h. refl) m long

-- eight rows that have a border in lane t
pub border-column : (t : ℕ) (r0 r1 r2 r3 r4 r5 r6 r7 b : List ℤ) → length b ≡ 8 → at r0 t ≡ at b 0 → at r1 t ≡ at b 1 → at r2 t ≡ at b 2 → at r3 t ≡ at b 3 → at r4 t ≡ at b 4 → at r5 t ≡ at b 5
    → at r6 t ≡ at b 6 → at r7 t ≡ at b 7 → column t (r0 ∷ r1 ∷ r2 ∷ r3 ∷ r4 ∷ r5 ∷ r6 ∷ r7 ∷ []) ≡ b
border-column t r0 r1 r2 r3 r4 r5 r6 r7 b long =
    by_eight (λ b. at r0 t ≡ at b 0 → at r1 t ≡ at b 1 → at r2 t ≡ at b 2 → at r3 t ≡ at b 3 → at r4 t ≡ at b 4 → at r5 t ≡ at b 5 → at r6 t ≡ at b 6 → at r7 t ≡ at b 7
    → column t (r0 ∷ r1 ∷ r2 ∷ r3 ∷ r4 ∷ r5 ∷ r6 ∷ r7 ∷ []) ≡ b)
    (λ a b c d e f g h p0 p1 p2 p3 p4 p5 p6 p7. same a b c d e f g h p0 p1 p2 p3 p4 p5 p6 p7) b long
  where
    same : (a b c d e f g h : ℤ) → at r0 t ≡ a → at r1 t ≡ b → at r2 t ≡ c → at r3 t ≡ d → at r4 t ≡ e → at r5 t ≡ f → at r6 t ≡ g → at r7 t ≡ h
        → at r0 t ∷ at r1 t ∷ at r2 t ∷ at r3 t ∷ at r4 t ∷ at r5 t ∷ at r6 t ∷ at r7 t ∷ [] ≡ a ∷ b ∷ c ∷ d ∷ e ∷ f ∷ g ∷ h ∷ []
    same a b c d e f g h p0 p1 p2 p3 p4 p5 p6 p7 = cc
