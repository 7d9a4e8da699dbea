-- All but the first bit of a coordinate say where its size lies.
use Rattle.std.proofs.Common.{◌≡◌, ℕ, suc, ◌*◌, ℤ, pos, negsuc, ◌-ℤ◌, ◌*ℤ◌, List, [], ◌∷◌, length, set, ◌∙◌, arith}
use Rattle.std.specs.Prelude.{unsigned_abs, int_div}
use Rattle.std.specs.Int.{int_min}
use Rattle.std.proofs.lemmas.Int.{ints}
use Rattle.std.proofs.lemmas.List.{length-set}
use Rattle.lte_bits.specs.declared.bit.Bit.{Bit}
use Rattle.lte_bits.specs.declared.bit.Bit.TheVariants.{Zero, One}
use Rattle.qam_points.specs.Coordinate.{coordinate_near, coordinate_value, level_distance}
use Rattle.qam_points.proofs.Least.{least_over-min}
use Rattle.qam_points.proofs.Squares.{folded}

-- how far the size of t is below a middle
abbrev pub below_middle : (middle : ℕ) → ℤ → ℤ
below_middle middle t = pos middle -ℤ pos (unsigned_abs t)

fold_two : (amp : ℕ) (t : ℤ) (w : List Bit) → length w ≡ 1 → int_min (level_distance amp t (Zero ∷ w)) (level_distance amp t (One ∷ w)) ≡ level_distance amp (below_middle (2 * amp) t) w
fold_two amp t [] e = absurd (omega arith)
fold_two amp t (Zero ∷ []) e =
    folded t (t -ℤ pos amp *ℤ pos 1) (t -ℤ pos amp *ℤ negsuc 0) (below_middle (2 * amp) t -ℤ pos amp *ℤ pos 1) (1 * amp) (omega (arith, ints)) (omega (arith, ints)) (omega (arith, ints))
fold_two amp t (One ∷ []) e =
    folded t (t -ℤ pos amp *ℤ pos 3) (t -ℤ pos amp *ℤ negsuc 2) (below_middle (2 * amp) t -ℤ pos amp *ℤ negsuc 0) (3 * amp) (omega (arith, ints)) (omega (arith, ints)) (omega (arith, ints))
fold_two amp t (b ∷ c ∷ w) e = absurd (omega arith)

fold_three : (amp : ℕ) (t : ℤ) (w : List Bit) → length w ≡ 2 → int_min (level_distance amp t (Zero ∷ w)) (level_distance amp t (One ∷ w)) ≡ level_distance amp (below_middle (4 * amp) t) w
fold_three amp t [] e = absurd (omega arith)
fold_three amp t (b ∷ []) e = absurd (omega arith)
fold_three amp t (Zero ∷ Zero ∷ []) e =
    folded t (t -ℤ pos amp *ℤ pos 3) (t -ℤ pos amp *ℤ negsuc 2) (below_middle (4 * amp) t -ℤ pos amp *ℤ pos 1) (3 * amp) (omega (arith, ints)) (omega (arith, ints)) (omega (arith, ints))
fold_three amp t (Zero ∷ One ∷ []) e =
    folded t (t -ℤ pos amp *ℤ pos 1) (t -ℤ pos amp *ℤ negsuc 0) (below_middle (4 * amp) t -ℤ pos amp *ℤ pos 3) (1 * amp) (omega (arith, ints)) (omega (arith, ints)) (omega (arith, ints))
fold_three amp t (One ∷ Zero ∷ []) e =
    folded t (t -ℤ pos amp *ℤ pos 5) (t -ℤ pos amp *ℤ negsuc 4) (below_middle (4 * amp) t -ℤ pos amp *ℤ negsuc 0) (5 * amp) (omega (arith, ints)) (omega (arith, ints)) (omega (arith, ints))
fold_three amp t (One ∷ One ∷ []) e =
    folded t (t -ℤ pos amp *ℤ pos 7) (t -ℤ pos amp *ℤ negsuc 6) (below_middle (4 * amp) t -ℤ pos amp *ℤ negsuc 2) (7 * amp) (omega (arith, ints)) (omega (arith, ints)) (omega (arith, ints))
fold_three amp t (b ∷ c ∷ d ∷ w) e = absurd (omega arith)

near_of_two : (amp : ℕ) (t : ℤ) (j : ℕ) (b : Bit) → coordinate_near 2 amp t (suc j) b ≡ coordinate_near 1 amp (below_middle (2 * amp) t) j b
unfolding coordinate_near
near_of_two amp t j b =
    least_over-min 1 (λ x. level_distance amp t (Zero ∷ set x j b)) (λ x. level_distance amp t (One ∷ set x j b)) (λ x. level_distance amp (below_middle (2 * amp) t) (set x j b))
    (λ x e. fold_two amp t (set x j b) (length-set x j b ∙ e))

near_of_three : (amp : ℕ) (t : ℤ) (j : ℕ) (b : Bit) → coordinate_near 3 amp t (suc j) b ≡ coordinate_near 2 amp (below_middle (4 * amp) t) j b
unfolding coordinate_near
near_of_three amp t j b =
    least_over-min 2 (λ x. level_distance amp t (Zero ∷ set x j b)) (λ x. level_distance amp t (One ∷ set x j b)) (λ x. level_distance amp (below_middle (4 * amp) t) (set x j b))
    (λ x e. fold_three amp t (set x j b) (length-set x j b ∙ e))

same_quotient : (p q r s : ℤ) (amp : ℕ) → p ≡ r → q ≡ s → int_div (p -ℤ q) (pos (4 * amp)) ≡ int_div (r -ℤ s) (pos (4 * amp))
same_quotient p q r s amp e f = cc

pub value_of_two : (amp : ℕ) (t : ℤ) (j : ℕ) → coordinate_value 2 amp t (suc j) ≡ coordinate_value 1 amp (below_middle (2 * amp) t) j
unfolding coordinate_value
value_of_two amp t j = same_quotient _ _ _ _ amp (near_of_two amp t j One) (near_of_two amp t j Zero)

pub value_of_three : (amp : ℕ) (t : ℤ) (j : ℕ) → coordinate_value 3 amp t (suc j) ≡ coordinate_value 2 amp (below_middle (4 * amp) t) j
unfolding coordinate_value
value_of_three amp t j = same_quotient _ _ _ _ amp (near_of_three amp t j One) (near_of_three amp t j Zero)
