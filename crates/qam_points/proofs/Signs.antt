-- The first bit of a coordinate is its sign.
use Rattle.std.proofs.Common.{◌≡◌, ℕ, suc, ◌-◌, ◌*◌, ◌<◌, ◌≤◌, ℤ, pos, negsuc, ◌-ℤ◌, ◌*ℤ◌, ◌≤ℤ◌, List, [], ◌∷◌, length, set, refl, ap, ◌∙◌, inl, inr, arith}
use Rattle.std.specs.Prelude.{int_div, neg_ℤ}
use Rattle.std.proofs.lemmas.Bool.{cases_lt}
use Rattle.std.proofs.lemmas.Int.{ints, clamps}
use Rattle.lte_bits.specs.Softs.{clamped}
use Rattle.lte_bits.specs.declared.bit.Bit.{Bit}
use Rattle.lte_bits.specs.declared.bit.Bit.TheVariants.{Zero, One}
use Rattle.qam_points.specs.Coordinate.{coordinate_near, coordinate_value, level_distance}
use Rattle.qam_points.specs.Demapping.{square}
use Rattle.qam_points.proofs.Least.{least_over-is, least_over-same}
use Rattle.qam_points.proofs.Squares.{AreApart, min_same, quotient_down, quotient_up, same_square, square-le}

-- ---- one bit

near_of_one : (amp : ℕ) (t : ℤ) (b : Bit) → coordinate_near 1 amp t 0 b ≡ level_distance amp t (b ∷ [])
unfolding coordinate_near
near_of_one amp t b = min_same (level_distance amp t (b ∷ []))

same_quotient : (p q r s : ℤ) (amp : ℕ) → p ≡ r → q ≡ s → int_div (p -ℤ q) (pos (4 * amp)) ≡ int_div (r -ℤ s) (pos (4 * amp))
same_quotient p q r s amp e f = cc

-- the value by the two nearest levels
by_levels : (n amp : ℕ) (t z o : ℤ) → coordinate_near n amp t 0 Zero ≡ square z → coordinate_near n amp t 0 One ≡ square o
    → coordinate_value n amp t 0 ≡ int_div (square o -ℤ square z) (pos (4 * amp))
unfolding coordinate_value
by_levels n amp t z o e f = same_quotient _ _ _ _ amp f e

pub value_of_one : (amp : ℕ) (t : ℤ) → 0 < amp → coordinate_value 1 amp t 0 ≡ t
value_of_one amp (pos x) some =
    by_levels 1 amp (pos x) (pos x -ℤ pos amp *ℤ pos 1) (pos x -ℤ pos amp *ℤ negsuc 0) (near_of_one amp (pos x) Zero) (near_of_one amp (pos x) One)
    ∙ quotient_up (pos x -ℤ pos amp *ℤ pos 1) (pos x -ℤ pos amp *ℤ negsuc 0) x amp amp x some
    (record { difference = omega (arith, ints); sum = omega (arith, ints) }) (omega arith)
value_of_one amp (negsuc k) some =
    by_levels 1 amp (negsuc k) (negsuc k -ℤ pos amp *ℤ pos 1) (negsuc k -ℤ pos amp *ℤ negsuc 0) (near_of_one amp (negsuc k) Zero) (near_of_one amp (negsuc k) One)
    ∙ quotient_down (negsuc k -ℤ pos amp *ℤ negsuc 0) (negsuc k -ℤ pos amp *ℤ pos 1) (suc k) amp amp (suc k) some
    (record { difference = omega (arith, ints); sum = omega (arith, ints) }) (omega arith)

-- ---- two bits

-- the nearest level of two bits with this sign
near_two : (amp : ℕ) (t : ℤ) (b c : Bit) → ((d : Bit) → level_distance amp t (b ∷ c ∷ []) ≤ℤ level_distance amp t (b ∷ d ∷ [])) → coordinate_near 2 amp t 0 b ≡ level_distance amp t (b ∷ c ∷ [])
unfolding coordinate_near
near_two amp t b c least = least_over-is 2 (λ w. level_distance amp t (set w 0 b)) (b ∷ c ∷ []) refl bound
  where
    bound : (y : List Bit) → length y ≡ 2 → level_distance amp t (b ∷ c ∷ []) ≤ℤ level_distance amp t (set y 0 b)
    bound [] e = absurd (omega arith)
    bound (p ∷ []) e = absurd (omega arith)
    bound (p ∷ q ∷ []) e = least q
    bound (p ∷ q ∷ r ∷ y) e = absurd (omega arith)

-- on the other side of 0 that is the smallest level
other_of_two : (amp x : ℕ) → coordinate_near 2 amp (pos x) 0 One ≡ level_distance amp (pos x) (One ∷ Zero ∷ [])
other_of_two amp x = near_two amp (pos x) One Zero least
  where
    least : (d : Bit) → level_distance amp (pos x) (One ∷ Zero ∷ []) ≤ℤ level_distance amp (pos x) (One ∷ d ∷ [])
    least Zero = square-le (pos x -ℤ pos amp *ℤ negsuc 0) (pos x -ℤ pos amp *ℤ negsuc 0) (omega (arith, ints))
    least One = square-le (pos x -ℤ pos amp *ℤ negsuc 0) (pos x -ℤ pos amp *ℤ negsuc 2) (omega (arith, ints))

same_of_two_below : (amp x : ℕ) → x < 2 * amp → coordinate_near 2 amp (pos x) 0 Zero ≡ level_distance amp (pos x) (Zero ∷ Zero ∷ [])
same_of_two_below amp x h = near_two amp (pos x) Zero Zero least
  where
    least : (d : Bit) → level_distance amp (pos x) (Zero ∷ Zero ∷ []) ≤ℤ level_distance amp (pos x) (Zero ∷ d ∷ [])
    least Zero = square-le (pos x -ℤ pos amp *ℤ pos 1) (pos x -ℤ pos amp *ℤ pos 1) (omega (arith, ints))
    least One = square-le (pos x -ℤ pos amp *ℤ pos 1) (pos x -ℤ pos amp *ℤ pos 3) (omega (arith, ints))

same_of_two_above : (amp x : ℕ) → 2 * amp ≤ x → coordinate_near 2 amp (pos x) 0 Zero ≡ level_distance amp (pos x) (Zero ∷ One ∷ [])
same_of_two_above amp x h = near_two amp (pos x) Zero One least
  where
    least : (d : Bit) → level_distance amp (pos x) (Zero ∷ One ∷ []) ≤ℤ level_distance amp (pos x) (Zero ∷ d ∷ [])
    least Zero = square-le (pos x -ℤ pos amp *ℤ pos 3) (pos x -ℤ pos amp *ℤ pos 1) (omega (arith, ints))
    least One = square-le (pos x -ℤ pos amp *ℤ pos 3) (pos x -ℤ pos amp *ℤ pos 3) (omega (arith, ints))

-- the two nearest levels of a coordinate of size x, and what their squares say: v is the value
pub record Nearest (n amp x v : ℕ) : Type 0 where
  pub same : ℤ
  pub other : ℤ
  pub y : ℕ
  pub s : ℕ
  pub same_is : coordinate_near n amp (pos x) 0 Zero ≡ square same
  pub other_is : coordinate_near n amp (pos x) 0 One ≡ square other
  pub apart : AreApart same other y s
  pub product : y * s ≡ amp * v

nearest_of_two_below : (amp x : ℕ) → x < 2 * amp → Nearest 2 amp x x
nearest_of_two_below amp x h = record {
  same = pos x -ℤ pos amp *ℤ pos 1;
  other = pos x -ℤ pos amp *ℤ negsuc 0;
  y = x;
  s = amp;
  same_is = same_of_two_below amp x h;
  other_is = other_of_two amp x;
  apart = record { difference = omega (arith, ints); sum = omega (arith, ints) };
  product = omega arith;
}

nearest_of_two_above : (amp x : ℕ) → 2 * amp ≤ x → Nearest 2 amp x (2 * (x - amp))
nearest_of_two_above amp x h = record {
  same = pos x -ℤ pos amp *ℤ pos 3;
  other = pos x -ℤ pos amp *ℤ negsuc 0;
  y = x - amp;
  s = 2 * amp;
  same_is = same_of_two_above amp x h;
  other_is = other_of_two amp x;
  apart = record { difference = omega (arith, ints); sum = omega (arith, ints) };
  product = let y = x - amp in let e : y * (2 * amp) ≡ amp * (2 * y) = omega arith in e;
}

-- ---- both sides of 0

-- a coordinate below 0 is one above, turned
pub record AreMirrored (n amp k : ℕ) : Type 0 where
  pub zero : coordinate_near n amp (negsuc k) 0 Zero ≡ coordinate_near n amp (pos (suc k)) 0 One
  pub one : coordinate_near n amp (negsuc k) 0 One ≡ coordinate_near n amp (pos (suc k)) 0 Zero

pub value_above : (n amp x v : ℕ) → 0 < amp → Nearest n amp x v → coordinate_value n amp (pos x) 0 ≡ pos v
value_above n amp x v some near =
    by_levels n amp (pos x) near.same near.other near.same_is near.other_is
    ∙ quotient_up near.same near.other near.y near.s amp v some near.apart near.product

pub value_below : (n amp k v : ℕ) → 0 < amp → AreMirrored n amp k → Nearest n amp (suc k) v → coordinate_value n amp (negsuc k) 0 ≡ neg_ℤ (pos v)
value_below n amp k v some mirrored near =
    by_levels n amp (negsuc k) near.other near.same (mirrored.zero ∙ near.other_is) (mirrored.one ∙ near.same_is)
    ∙ quotient_down near.same near.other near.y near.s amp v some near.apart near.product

mirrored_two : (amp k : ℕ) → AreMirrored 2 amp k
unfolding coordinate_near
mirrored_two amp k = record {
  zero = least_over-same 2 (λ w. level_distance amp (negsuc k) (set w 0 Zero)) (λ w. level_distance amp (pos (suc k)) (set w 0 One)) up;
  one = least_over-same 2 (λ w. level_distance amp (negsuc k) (set w 0 One)) (λ w. level_distance amp (pos (suc k)) (set w 0 Zero)) down;
}
  where
    up : (w : List Bit) → length w ≡ 2 → level_distance amp (negsuc k) (set w 0 Zero) ≡ level_distance amp (pos (suc k)) (set w 0 One)
    up [] e = absurd (omega arith)
    up (p ∷ []) e = absurd (omega arith)
    up (p ∷ Zero ∷ []) e = same_square (negsuc k -ℤ pos amp *ℤ pos 1) (pos (suc k) -ℤ pos amp *ℤ negsuc 0) (omega (arith, ints))
    up (p ∷ One ∷ []) e = same_square (negsuc k -ℤ pos amp *ℤ pos 3) (pos (suc k) -ℤ pos amp *ℤ negsuc 2) (omega (arith, ints))
    up (p ∷ q ∷ r ∷ w) e = absurd (omega arith)

    down : (w : List Bit) → length w ≡ 2 → level_distance amp (negsuc k) (set w 0 One) ≡ level_distance amp (pos (suc k)) (set w 0 Zero)
    down [] e = absurd (omega arith)
    down (p ∷ []) e = absurd (omega arith)
    down (p ∷ Zero ∷ []) e = same_square (negsuc k -ℤ pos amp *ℤ negsuc 0) (pos (suc k) -ℤ pos amp *ℤ pos 1) (omega (arith, ints))
    down (p ∷ One ∷ []) e = same_square (negsuc k -ℤ pos amp *ℤ negsuc 2) (pos (suc k) -ℤ pos amp *ℤ pos 3) (omega (arith, ints))
    down (p ∷ q ∷ r ∷ w) e = absurd (omega arith)

-- twice the coordinate, less what of it lies near 0
abbrev pub sign_of_two : (amp : ℕ) → ℤ → ℤ
sign_of_two amp t = pos 2 *ℤ t -ℤ clamped (2 * amp) t

pub value_of_sign_of_two : (amp : ℕ) (t : ℤ) → 0 < amp → coordinate_value 2 amp t 0 ≡ sign_of_two amp t
value_of_sign_of_two amp (pos x) some =
    elim (cases_lt x (2 * amp)) [
      | inl h ↦ value_above 2 amp x x some (nearest_of_two_below amp x h) ∙ omega (arith, ints, clamps)
      | inr h ↦ value_above 2 amp x (2 * (x - amp)) some (nearest_of_two_above amp x h) ∙ omega (arith, ints, clamps)
    ]
value_of_sign_of_two amp (negsuc k) some =
    elim (cases_lt (suc k) (2 * amp)) [
      | inl h ↦ value_below 2 amp k (suc k) some (mirrored_two amp k) (nearest_of_two_below amp (suc k) h) ∙ omega (arith, ints, clamps)
      | inr h ↦ value_below 2 amp k (2 * (suc k - amp)) some (mirrored_two amp k) (nearest_of_two_above amp (suc k) h) ∙ omega (arith, ints, clamps)
    ]

-- a bound as the code has it
pub within_is : (r t u : ℤ) (k n amp : ℕ) → r ≡ clamped (k * n) u → u ≡ t → n ≡ amp → r ≡ clamped (k * amp) t
within_is r t u k n amp is e f = is ∙ (ap (clamped (k * n)) e ∙ ap (λ (m : ℕ). clamped (k * m) t) f)

pub sign_of_two_by : (amp : ℕ) (t w : ℤ) → w ≡ clamped (2 * amp) t → pos 2 *ℤ t -ℤ w ≡ sign_of_two amp t
sign_of_two_by amp t w e = ap (λ (z : ℤ). pos 2 *ℤ t -ℤ z) e
