-- The first of a coordinate's three bits is its sign.
use Rattle.std.proofs.Common.{◌≡◌, ℕ, suc, ◌-◌, ◌*◌, ◌<◌, ◌≤◌, ℤ, pos, negsuc, ◌-ℤ◌, ◌*ℤ◌, ◌≤ℤ◌, List, [], ◌∷◌, length, set, refl, ap, ◌∙◌, inl, inr, arith}
use Rattle.std.specs.Prelude.{neg_ℤ}
use Rattle.std.proofs.lemmas.Bool.{cases_lt}
use Rattle.std.proofs.lemmas.Int.{ints, clamps}
use Rattle.lte_bits.specs.Softs.{clamped}
use Rattle.lte_bits.specs.declared.bit.Bit.{Bit}
use Rattle.lte_bits.specs.declared.bit.Bit.TheVariants.{Zero, One}
use Rattle.qam_points.specs.Coordinate.{coordinate_near, coordinate_value, level_distance}
use Rattle.qam_points.proofs.Least.{least_over-is, least_over-same}
use Rattle.qam_points.proofs.Signs.{AreMirrored, Nearest, value_above, value_below}
use Rattle.qam_points.proofs.Squares.{same_square, square-le}

-- the nearest level of three bits with this sign
near_three : (amp : ℕ) (t : ℤ) (b c d : Bit) → ((e f : Bit) → level_distance amp t (b ∷ c ∷ d ∷ []) ≤ℤ level_distance amp t (b ∷ e ∷ f ∷ []))
    → coordinate_near 3 amp t 0 b ≡ level_distance amp t (b ∷ c ∷ d ∷ [])
unfolding coordinate_near
near_three amp t b c d least = least_over-is 3 (λ w. level_distance amp t (set w 0 b)) (b ∷ c ∷ d ∷ []) refl bound
  where
    bound : (y : List Bit) → length y ≡ 3 → level_distance amp t (b ∷ c ∷ d ∷ []) ≤ℤ level_distance amp t (set y 0 b)
    bound [] e = absurd (omega arith)
    bound (p ∷ []) e = absurd (omega arith)
    bound (p ∷ q ∷ []) e = absurd (omega arith)
    bound (p ∷ q ∷ r ∷ []) e = least q r
    bound (p ∷ q ∷ r ∷ s ∷ y) e = absurd (omega arith)

-- on the other side of 0 that is the smallest level
other_side : (amp x : ℕ) → coordinate_near 3 amp (pos x) 0 One ≡ level_distance amp (pos x) (One ∷ Zero ∷ One ∷ [])
other_side amp x = near_three amp (pos x) One Zero One least
  where
    least : (e f : Bit) → level_distance amp (pos x) (One ∷ Zero ∷ One ∷ []) ≤ℤ level_distance amp (pos x) (One ∷ e ∷ f ∷ [])
    least Zero Zero = square-le (pos x -ℤ pos amp *ℤ negsuc 0) (pos x -ℤ pos amp *ℤ negsuc 2) (omega (arith, ints))
    least Zero One = square-le (pos x -ℤ pos amp *ℤ negsuc 0) (pos x -ℤ pos amp *ℤ negsuc 0) (omega (arith, ints))
    least One Zero = square-le (pos x -ℤ pos amp *ℤ negsuc 0) (pos x -ℤ pos amp *ℤ negsuc 4) (omega (arith, ints))
    least One One = square-le (pos x -ℤ pos amp *ℤ negsuc 0) (pos x -ℤ pos amp *ℤ negsuc 6) (omega (arith, ints))

-- on its own side it goes by its size
nearest_one : (amp x : ℕ) → x < 2 * amp → coordinate_near 3 amp (pos x) 0 Zero ≡ level_distance amp (pos x) (Zero ∷ Zero ∷ One ∷ [])
nearest_one amp x h0 = near_three amp (pos x) Zero Zero One least
  where
    least : (e f : Bit) → level_distance amp (pos x) (Zero ∷ Zero ∷ One ∷ []) ≤ℤ level_distance amp (pos x) (Zero ∷ e ∷ f ∷ [])
    least Zero Zero = square-le (pos x -ℤ pos amp *ℤ pos 1) (pos x -ℤ pos amp *ℤ pos 3) (omega (arith, ints))
    least Zero One = square-le (pos x -ℤ pos amp *ℤ pos 1) (pos x -ℤ pos amp *ℤ pos 1) (omega (arith, ints))
    least One Zero = square-le (pos x -ℤ pos amp *ℤ pos 1) (pos x -ℤ pos amp *ℤ pos 5) (omega (arith, ints))
    least One One = square-le (pos x -ℤ pos amp *ℤ pos 1) (pos x -ℤ pos amp *ℤ pos 7) (omega (arith, ints))

nearest_three : (amp x : ℕ) → 2 * amp ≤ x → x < 4 * amp → coordinate_near 3 amp (pos x) 0 Zero ≡ level_distance amp (pos x) (Zero ∷ Zero ∷ Zero ∷ [])
nearest_three amp x h0 h1 = near_three amp (pos x) Zero Zero Zero least
  where
    least : (e f : Bit) → level_distance amp (pos x) (Zero ∷ Zero ∷ Zero ∷ []) ≤ℤ level_distance amp (pos x) (Zero ∷ e ∷ f ∷ [])
    least Zero Zero = square-le (pos x -ℤ pos amp *ℤ pos 3) (pos x -ℤ pos amp *ℤ pos 3) (omega (arith, ints))
    least Zero One = square-le (pos x -ℤ pos amp *ℤ pos 3) (pos x -ℤ pos amp *ℤ pos 1) (omega (arith, ints))
    least One Zero = square-le (pos x -ℤ pos amp *ℤ pos 3) (pos x -ℤ pos amp *ℤ pos 5) (omega (arith, ints))
    least One One = square-le (pos x -ℤ pos amp *ℤ pos 3) (pos x -ℤ pos amp *ℤ pos 7) (omega (arith, ints))

nearest_five : (amp x : ℕ) → 4 * amp ≤ x → x < 6 * amp → coordinate_near 3 amp (pos x) 0 Zero ≡ level_distance amp (pos x) (Zero ∷ One ∷ Zero ∷ [])
nearest_five amp x h0 h1 = near_three amp (pos x) Zero One Zero least
  where
    least : (e f : Bit) → level_distance amp (pos x) (Zero ∷ One ∷ Zero ∷ []) ≤ℤ level_distance amp (pos x) (Zero ∷ e ∷ f ∷ [])
    least Zero Zero = square-le (pos x -ℤ pos amp *ℤ pos 5) (pos x -ℤ pos amp *ℤ pos 3) (omega (arith, ints))
    least Zero One = square-le (pos x -ℤ pos amp *ℤ pos 5) (pos x -ℤ pos amp *ℤ pos 1) (omega (arith, ints))
    least One Zero = square-le (pos x -ℤ pos amp *ℤ pos 5) (pos x -ℤ pos amp *ℤ pos 5) (omega (arith, ints))
    least One One = square-le (pos x -ℤ pos amp *ℤ pos 5) (pos x -ℤ pos amp *ℤ pos 7) (omega (arith, ints))

nearest_seven : (amp x : ℕ) → 6 * amp ≤ x → coordinate_near 3 amp (pos x) 0 Zero ≡ level_distance amp (pos x) (Zero ∷ One ∷ One ∷ [])
nearest_seven amp x h0 = near_three amp (pos x) Zero One One least
  where
    least : (e f : Bit) → level_distance amp (pos x) (Zero ∷ One ∷ One ∷ []) ≤ℤ level_distance amp (pos x) (Zero ∷ e ∷ f ∷ [])
    least Zero Zero = square-le (pos x -ℤ pos amp *ℤ pos 7) (pos x -ℤ pos amp *ℤ pos 3) (omega (arith, ints))
    least Zero One = square-le (pos x -ℤ pos amp *ℤ pos 7) (pos x -ℤ pos amp *ℤ pos 1) (omega (arith, ints))
    least One Zero = square-le (pos x -ℤ pos amp *ℤ pos 7) (pos x -ℤ pos amp *ℤ pos 5) (omega (arith, ints))
    least One One = square-le (pos x -ℤ pos amp *ℤ pos 7) (pos x -ℤ pos amp *ℤ pos 7) (omega (arith, ints))

nearest_one_says : (amp x : ℕ) → x < 2 * amp → Nearest 3 amp x (x)
nearest_one_says amp x h0 = record {
  same = pos x -ℤ pos amp *ℤ pos 1;
  other = pos x -ℤ pos amp *ℤ negsuc 0;
  y = x;
  s = amp;
  same_is = nearest_one amp x h0;
  other_is = other_side amp x;
  apart = record { difference = omega (arith, ints); sum = omega (arith, ints) };
  product = omega arith;
}

nearest_three_says : (amp x : ℕ) → 2 * amp ≤ x → x < 4 * amp → Nearest 3 amp x (2 * (x - 1 * amp))
nearest_three_says amp x h0 h1 = record {
  same = pos x -ℤ pos amp *ℤ pos 3;
  other = pos x -ℤ pos amp *ℤ negsuc 0;
  y = x - 1 * amp;
  s = 2 * amp;
  same_is = nearest_three amp x h0 h1;
  other_is = other_side amp x;
  apart = record { difference = omega (arith, ints); sum = omega (arith, ints) };
  product = let z = x - 1 * amp in let e : z * (2 * amp) ≡ amp * (2 * z) = omega arith in e;
}

nearest_five_says : (amp x : ℕ) → 4 * amp ≤ x → x < 6 * amp → Nearest 3 amp x (3 * (x - 2 * amp))
nearest_five_says amp x h0 h1 = record {
  same = pos x -ℤ pos amp *ℤ pos 5;
  other = pos x -ℤ pos amp *ℤ negsuc 0;
  y = x - 2 * amp;
  s = 3 * amp;
  same_is = nearest_five amp x h0 h1;
  other_is = other_side amp x;
  apart = record { difference = omega (arith, ints); sum = omega (arith, ints) };
  product = let z = x - 2 * amp in let e : z * (3 * amp) ≡ amp * (3 * z) = omega arith in e;
}

nearest_seven_says : (amp x : ℕ) → 6 * amp ≤ x → Nearest 3 amp x (4 * (x - 3 * amp))
nearest_seven_says amp x h0 = record {
  same = pos x -ℤ pos amp *ℤ pos 7;
  other = pos x -ℤ pos amp *ℤ negsuc 0;
  y = x - 3 * amp;
  s = 4 * amp;
  same_is = nearest_seven amp x h0;
  other_is = other_side amp x;
  apart = record { difference = omega (arith, ints); sum = omega (arith, ints) };
  product = let z = x - 3 * amp in let e : z * (4 * amp) ≡ amp * (4 * z) = omega arith in e;
}

mirrored_three : (amp k : ℕ) → AreMirrored 3 amp k
unfolding coordinate_near
mirrored_three amp k = record {
  zero = least_over-same 3 (λ w. level_distance amp (negsuc k) (set w 0 Zero)) (λ w. level_distance amp (pos (suc k)) (set w 0 One)) up;
  one = least_over-same 3 (λ w. level_distance amp (negsuc k) (set w 0 One)) (λ w. level_distance amp (pos (suc k)) (set w 0 Zero)) down;
}
  where
    up : (w : List Bit) → length w ≡ 3 → level_distance amp (negsuc k) (set w 0 Zero) ≡ level_distance amp (pos (suc k)) (set w 0 One)
    up [] e = absurd (omega arith)
    up (p ∷ []) e = absurd (omega arith)
    up (p ∷ q ∷ []) e = absurd (omega arith)
    up (p ∷ Zero ∷ Zero ∷ []) e = same_square (negsuc k -ℤ pos amp *ℤ pos 3) (pos (suc k) -ℤ pos amp *ℤ negsuc 2) (omega (arith, ints))
    up (p ∷ Zero ∷ One ∷ []) e = same_square (negsuc k -ℤ pos amp *ℤ pos 1) (pos (suc k) -ℤ pos amp *ℤ negsuc 0) (omega (arith, ints))
    up (p ∷ One ∷ Zero ∷ []) e = same_square (negsuc k -ℤ pos amp *ℤ pos 5) (pos (suc k) -ℤ pos amp *ℤ negsuc 4) (omega (arith, ints))
    up (p ∷ One ∷ One ∷ []) e = same_square (negsuc k -ℤ pos amp *ℤ pos 7) (pos (suc k) -ℤ pos amp *ℤ negsuc 6) (omega (arith, ints))
    up (p ∷ q ∷ r ∷ s ∷ w) e = absurd (omega arith)

    down : (w : List Bit) → length w ≡ 3 → level_distance amp (negsuc k) (set w 0 One) ≡ level_distance amp (pos (suc k)) (set w 0 Zero)
    down [] e = absurd (omega arith)
    down (p ∷ []) e = absurd (omega arith)
    down (p ∷ q ∷ []) e = absurd (omega arith)
    down (p ∷ Zero ∷ Zero ∷ []) e = same_square (negsuc k -ℤ pos amp *ℤ negsuc 2) (pos (suc k) -ℤ pos amp *ℤ pos 3) (omega (arith, ints))
    down (p ∷ Zero ∷ One ∷ []) e = same_square (negsuc k -ℤ pos amp *ℤ negsuc 0) (pos (suc k) -ℤ pos amp *ℤ pos 1) (omega (arith, ints))
    down (p ∷ One ∷ Zero ∷ []) e = same_square (negsuc k -ℤ pos amp *ℤ negsuc 4) (pos (suc k) -ℤ pos amp *ℤ pos 5) (omega (arith, ints))
    down (p ∷ One ∷ One ∷ []) e = same_square (negsuc k -ℤ pos amp *ℤ negsuc 6) (pos (suc k) -ℤ pos amp *ℤ pos 7) (omega (arith, ints))
    down (p ∷ q ∷ r ∷ s ∷ w) e = absurd (omega arith)

-- four times the coordinate, less what of it lies near 0, within three bounds
abbrev pub sign_of_three : (amp : ℕ) → ℤ → ℤ
sign_of_three amp t = pos 4 *ℤ t -ℤ clamped (2 * amp) t -ℤ clamped (4 * amp) t -ℤ clamped (6 * amp) t

above : (amp x v : ℕ) → 0 < amp → Nearest 3 amp x v → pos v ≡ sign_of_three amp (pos x) → coordinate_value 3 amp (pos x) 0 ≡ sign_of_three amp (pos x)
above amp x v some near e = value_above 3 amp x v some near ∙ e

below : (amp k v : ℕ) → 0 < amp → Nearest 3 amp (suc k) v → neg_ℤ (pos v) ≡ sign_of_three amp (negsuc k) → coordinate_value 3 amp (negsuc k) 0 ≡ sign_of_three amp (negsuc k)
below amp k v some near e = value_below 3 amp k v some (mirrored_three amp k) near ∙ e

pub value_of_sign_of_three : (amp : ℕ) (t : ℤ) → 0 < amp → coordinate_value 3 amp t 0 ≡ sign_of_three amp t
value_of_sign_of_three amp (pos x) some =
    elim (cases_lt x (2 * amp)) [
      | inl a ↦ above amp x x some (nearest_one_says amp x a) (omega (arith, ints, clamps))
      | inr a ↦
          elim (cases_lt x (4 * amp)) [
            | inl b ↦ above amp x (2 * (x - 1 * amp)) some (nearest_three_says amp x a b) (omega (arith, ints, clamps))
            | inr b ↦
                elim (cases_lt x (6 * amp)) [
                  | inl c ↦ above amp x (3 * (x - 2 * amp)) some (nearest_five_says amp x b c) (omega (arith, ints, clamps))
                  | inr c ↦ above amp x (4 * (x - 3 * amp)) some (nearest_seven_says amp x c) (omega (arith, ints, clamps))
                ]
          ]
    ]
value_of_sign_of_three amp (negsuc k) some =
    elim (cases_lt (suc k) (2 * amp)) [
      | inl a ↦ below amp k (suc k) some (nearest_one_says amp (suc k) a) (omega (arith, ints, clamps))
      | inr a ↦
          elim (cases_lt (suc k) (4 * amp)) [
            | inl b ↦ below amp k (2 * (suc k - 1 * amp)) some (nearest_three_says amp (suc k) a b) (omega (arith, ints, clamps))
            | inr b ↦
                elim (cases_lt (suc k) (6 * amp)) [
                  | inl c ↦ below amp k (3 * (suc k - 2 * amp)) some (nearest_five_says amp (suc k) b c) (omega (arith, ints, clamps))
                  | inr c ↦ below amp k (4 * (suc k - 3 * amp)) some (nearest_seven_says amp (suc k) c) (omega (arith, ints, clamps))
                ]
          ]
    ]

pub sign_of_three_by : (amp : ℕ) (t u v w : ℤ) → u ≡ clamped (2 * amp) t → v ≡ clamped (4 * amp) t → w ≡ clamped (6 * amp) t
    → pos 4 *ℤ t -ℤ u -ℤ v -ℤ w ≡ sign_of_three amp t
sign_of_three_by amp t u v w e f g =
    ap (λ (z : ℤ). pos 4 *ℤ t -ℤ z -ℤ v -ℤ w) e
    ∙ (ap (λ (z : ℤ). pos 4 *ℤ t -ℤ clamped (2 * amp) t -ℤ z -ℤ w) f
    ∙ ap (λ (z : ℤ). pos 4 *ℤ t -ℤ clamped (2 * amp) t -ℤ clamped (4 * amp) t -ℤ z) g)
