-- Rows of numbers, lane by lane.
use Rattle.std.proofs.Common.{◌≡◌, ◌≢◌, ℕ, ◌+◌, ◌<◌, ◌≤◌, ℤ, pos, List, [], length, set, map, sym, ap, ◌∙◌, subst, arith, inl, inr, get_or-set_other, get_or-set_same}
use Rattle.std.specs.List.{range_with_len}
use Rattle.std.proofs.lemmas.Int.{ints}
use Rattle.std.proofs.lemmas.Bool.{cases_eq, cases_lt}
use Rattle.std.proofs.lemmas.List.{ext_get_or, get_or-map, get_or_past, length-map, length-set}
use Rattle.std.proofs.lemmas.List.FromFn.{length-map-range_with_len, get_or-map-range_with_len}
use Rattle.lte_bits.specs.Softs.{IsWithin}
use Rattle.model_receiver.specs.Borders.{at}
use Rattle.window_rows.specs.Rows.{column, AreWithin, number_in}

-- past the end of a list there are zeros
pub within-past : (n : ℕ) (xs : List ℤ) (b : ℕ) → length xs ≤ b → IsWithin n (at xs b)
within-past n xs b le = subst (IsWithin n) (sym (get_or_past xs b (pos 0) le)) (omega (arith, ints), omega (arith, ints))

-- a number of a column
pub at-column : (t j : ℕ) (rows : List (List ℤ)) → j < length rows → at (column t rows) j ≡ number_in rows j t
at-column t j rows lt = get_or-map (λ (row : List ℤ). at row t) rows j [] (pos 0) lt

pub length-column : (t : ℕ) (rows : List (List ℤ)) → length (column t rows) ≡ length rows
length-column t rows = length-map rows (λ (row : List ℤ). at row t)

-- a column whose numbers are known
pub column-is : (t : ℕ) (rows : List (List ℤ)) (f : ℕ → ℤ) (from w : ℕ) → length rows ≡ w
    → ((j : ℕ) → j < w → number_in rows j t ≡ f (from + j)) → column t rows ≡ map f (range_with_len from w)
column-is t rows f from w long same =
    ext_get_or (pos 0) _ _ (length-column t rows ∙ (long ∙ sym (length-map-range_with_len f from w)))
    (λ j lt. let h : j < w = omega (arith, length-column t rows, long, lt) in
    at-column t j rows (omega (arith, long, h)) ∙ (same j h ∙ sym (get_or-map-range_with_len f from w j (from + j) (pos 0) h (omega arith))))

-- a row is replaced
pub number-in_same : (rows : List (List ℤ)) (r b : ℕ) (row : List ℤ) → r < length rows → number_in (set rows r row) r b ≡ at row b
number-in_same rows r b row lt = ap (λ (xs : List ℤ). at xs b) (get_or-set_same rows r row [] lt)

pub number-in_other : (rows : List (List ℤ)) (r s b : ℕ) (row : List ℤ) → s ≢ r → number_in (set rows r row) s b ≡ number_in rows s b
number-in_other rows r s b row ne = ap (λ (xs : List ℤ). at xs b) (get_or-set_other rows r s row [] ne)

-- and all stay within
pub within-set : (m n : ℕ) (rows : List (List ℤ)) (r : ℕ) (row : List ℤ) → r < length rows → AreWithin m n rows → ((b : ℕ) → b < m → IsWithin n (at row b)) → AreWithin m n (set rows r row)
within-set m n rows r row lt all here j t lj lm =
    elim (cases_eq j r) [
      | inl e ↦ subst (λ (k : ℕ). IsWithin n (number_in (set rows r row) k t)) (sym e) (subst (IsWithin n) (sym (number-in_same rows r t row lt)) (here t lm))
      | inr ne ↦ subst (IsWithin n) (sym (number-in_other rows r j t row ne)) (all j t (omega (arith, length-set rows r row, lj)) lm)
    ]

-- a number is replaced
pub within-set_at : (m n : ℕ) (xs : List ℤ) (i : ℕ) (x : ℤ) → ((b : ℕ) → b < m → IsWithin n (at xs b)) → IsWithin n x → (b : ℕ) → b < m → IsWithin n (at (set xs i x) b)
within-set_at m n xs i x all here b lb =
    elim (cases_eq b i) [
      | inl e ↦ elim (cases_lt i (length xs)) [
        | inl lt ↦ subst (λ (k : ℕ). IsWithin n (at (set xs i x) k)) (sym e) (subst (IsWithin n) (sym (get_or-set_same xs i x (pos 0) lt)) here)
        | inr le ↦ within-past n (set xs i x) b (omega (arith, length-set xs i x, le, e))
      ]
      | inr ne ↦ subst (IsWithin n) (sym (get_or-set_other xs i b x (pos 0) ne)) (all b lb)
    ]

-- cells are within 16 bits
pub within-words : (m : ℕ) (rows : List (List ℤ)) → AreWithin m 511 rows → AreWithin m 32767 rows
within-words m rows all j t lj lt = let h = all j t lj lt in (omega (arith, ints, h), omega (arith, ints, h))
