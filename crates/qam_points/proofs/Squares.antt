-- Squares of whole numbers, by their sizes.
use Rattle.std.proofs.Common.{◌≡◌, ℕ, zero, suc, ◌+◌, ◌-◌, ◌*◌, ◌/◌, ◌<◌, ◌≤◌, ℤ, pos, negsuc, ◌+ℤ◌, ◌-ℤ◌, ◌≤ℤ◌, refl, ap, sym, ◌∙◌, inl, inr, arith}
use Rattle.std.specs.Prelude.{unsigned_abs, int_div, neg_ℤ}
use Rattle.std.specs.Int.{int_min}
use Rattle.std.proofs.lemmas.Bool.{cases_lt}
use Rattle.std.proofs.lemmas.Int.{ints, clamps}
use Rattle.std.proofs.lemmas.Nat.{div-mul-add}
use native.Mathlib.Nat.{mul-le-mul}
use Rattle.qam_points.specs.Demapping.{square}

-- a square is that of the size
square-size : (z : ℤ) → square z ≡ pos (unsigned_abs z * unsigned_abs z)
square-size (pos n) = refl
square-size (negsuc n) = refl

-- smaller sizes have smaller squares
pub square-le : (p q : ℤ) → unsigned_abs p ≤ unsigned_abs q → square p ≤ℤ square q
square-le p q h =
    let a = square-size p in
    let b = square-size q in
    let s = mul-le-mul h h in
    omega (arith, ints)

pub same_square : (p q : ℤ) → unsigned_abs p ≡ unsigned_abs q → square p ≡ square q
same_square p q e = square-size p ∙ (ap (λ (n : ℕ). pos (n * n)) e ∙ sym (square-size q))

min_of_le : (x y : ℤ) → x ≤ℤ y → int_min x y ≡ x
min_of_le x y h = omega (arith, ints, clamps)

min_of_ge : (x y : ℤ) → y ≤ℤ x → int_min x y ≡ y
min_of_ge x y h = omega (arith, ints, clamps)

pub min_same : (x : ℤ) → int_min x x ≡ x
min_same x = omega (arith, ints, clamps)

-- of two levels z above and below 0 the nearer one is that on t's side
pub folded : (t p q v : ℤ) (z : ℕ) → p ≡ t -ℤ pos z → q ≡ t +ℤ pos z → v ≡ pos z -ℤ pos (unsigned_abs t) → int_min (square p) (square q) ≡ square v
folded (pos n) p q v z e f g =
    min_of_le (square p) (square q) (square-le p q (omega (arith, ints))) ∙ same_square p v (omega (arith, ints))
folded (negsuc n) p q v z e f g =
    min_of_ge (square p) (square q) (square-le q p (omega (arith, ints))) ∙ same_square q v (omega (arith, ints))

-- what the squares of a sum and of a difference differ by
sum_and_difference : (y s : ℕ) → (y + s) * (y + s) ≡ unsigned_abs (pos y -ℤ pos s) * unsigned_abs (pos y -ℤ pos s) + 4 * (y * s)
sum_and_difference y s =
    elim (cases_lt y s) [
      | inl below ↦ (
          let r = s - y in
          let e : unsigned_abs (pos y -ℤ pos s) ≡ r = omega (arith, ints) in
          let f : s ≡ y + r = omega arith in
          ap (λ (n : ℕ). (y + n) * (y + n)) f
          ∙ ((let g : (y + (y + r)) * (y + (y + r)) ≡ r * r + 4 * (y * (y + r)) = omega arith in g)
          ∙ (ap (λ (n : ℕ). r * r + 4 * (y * n)) (sym f) ∙ ap (λ (n : ℕ). n * n + 4 * (y * s)) (sym e)))
          )
      | inr above ↦ (
          let r = y - s in
          let e : unsigned_abs (pos y -ℤ pos s) ≡ r = omega (arith, ints) in
          let f : y ≡ s + r = omega arith in
          ap (λ (n : ℕ). (n + s) * (n + s)) f
          ∙ ((let g : (s + r + s) * (s + r + s) ≡ r * r + 4 * ((s + r) * s) = omega arith in g)
          ∙ (ap (λ (n : ℕ). r * r + 4 * (n * s)) (sym f) ∙ ap (λ (n : ℕ). n * n + 4 * (y * s)) (sym e)))
          )
    ]

whole_quotient : (k n : ℕ) → 0 < k → k * n / k ≡ n
whole_quotient k n h = ap (λ (m : ℕ). m / k) (let e : k * n ≡ n * k + 0 = omega arith in e) ∙ div-mul-add n k 0 h

-- a quotient of a negative number
down : (m k : ℕ) → 0 < k → int_div (neg_ℤ (pos m)) (pos k) ≡ neg_ℤ (pos (m / k))
down zero k h = ap (λ (n : ℕ). pos n) (let e : 0 / k ≡ 0 = ap (λ (n : ℕ). n / k) (let z : 0 ≡ k * 0 = omega arith in z) ∙ whole_quotient k 0 h in e)
    ∙ ap (λ (n : ℕ). neg_ℤ (pos n)) (sym (let e : 0 / k ≡ 0 = ap (λ (n : ℕ). n / k) (let z : 0 ≡ k * 0 = omega arith in z) ∙ whole_quotient k 0 h in e))
down (suc m) k h = refl

-- p and q are as far from 0 as y - s and y + s
pub record AreApart (p q : ℤ) (y s : ℕ) : Type 0 where
  pub difference : unsigned_abs p ≡ unsigned_abs (pos y -ℤ pos s)
  pub sum : unsigned_abs q ≡ y + s

squares_apart : (p q : ℤ) (y s a v : ℕ) → AreApart p q y s → y * s ≡ a * v → unsigned_abs q * unsigned_abs q ≡ unsigned_abs p * unsigned_abs p + 4 * a * v
squares_apart p q y s a v are e =
    ap (λ (n : ℕ). n * n) are.sum
    ∙ (sum_and_difference y s
    ∙ (ap (λ (n : ℕ). n * n + 4 * (y * s)) (sym are.difference)
    ∙ ap (λ (n : ℕ). unsigned_abs p * unsigned_abs p + n) (ap (λ (n : ℕ). 4 * n) e ∙ (let f : 4 * (a * v) ≡ 4 * a * v = omega arith in f))))

pub quotient_up : (p q : ℤ) (y s a v : ℕ) → 0 < a → AreApart p q y s → y * s ≡ a * v → int_div (square q -ℤ square p) (pos (4 * a)) ≡ pos v
quotient_up p q y s a v some are e =
    let h = squares_apart p q y s a v are e in
    let f = square-size p in
    let g = square-size q in
    let d : square q -ℤ square p ≡ pos (4 * a * v) = omega (arith, ints) in
    ap (λ (z : ℤ). int_div z (pos (4 * a))) d ∙ ap (λ (n : ℕ). pos n) (whole_quotient (4 * a) v (omega arith))

pub quotient_down : (p q : ℤ) (y s a v : ℕ) → 0 < a → AreApart p q y s → y * s ≡ a * v → int_div (square p -ℤ square q) (pos (4 * a)) ≡ neg_ℤ (pos v)
quotient_down p q y s a v some are e =
    let h = squares_apart p q y s a v are e in
    let f = square-size p in
    let g = square-size q in
    let d : square p -ℤ square q ≡ neg_ℤ (pos (4 * a * v)) = omega (arith, ints) in
    ap (λ (z : ℤ). int_div z (pos (4 * a))) d ∙ (down (4 * a * v) (4 * a) (omega arith) ∙ ap (λ (n : ℕ). neg_ℤ (pos n)) (whole_quotient (4 * a) v (omega arith)))
