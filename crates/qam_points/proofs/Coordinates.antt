-- A soft value by the one coordinate of its bit.
use Rattle.std.proofs.Common.{◌≡◌, ℕ, zero, suc, ◌+◌, ◌*◌, ◌<◌, ℤ, pos, ◌+ℤ◌, ◌-ℤ◌, ◌≤ℤ◌, List, [], ◌∷◌, length, get_or, refl, ap, sym, ◌∙◌, to_z, of_z, w32, arith}
use Rattle.std.specs.Prelude.{int_div}
use Rattle.std.proofs.lemmas.Int.{ints}
use Rattle.lte_bits.specs.Softs.{clamped}
use Rattle.lte_bits.specs.declared.bit.Bit.{Bit}
use Rattle.lte_bits.specs.declared.bit.Bit.TheVariants.{Zero, One}
use Rattle.qam_points.specs.Constellation.{even_bits, odd_bits, point}
use Rattle.qam_points.specs.Coordinate.{coordinate_near, coordinate_value, level_distance}
use Rattle.qam_points.specs.Demapping.{IsLeast, IsNear, distance, least_over, near, soft_value}
use Rattle.qam_points.specs.declared.point.Point.{Point}
use Rattle.qam_points.proofs.Least.{least_of_all, least_one, least_with_bit}

-- two lists of bits, by turns
woven : List Bit → List Bit → List Bit
woven (a ∷ u) (b ∷ w) = a ∷ b ∷ woven u w
woven _ _ = []

length-woven : (n : ℕ) (u w : List Bit) → length u ≡ n → length w ≡ n → length (woven u w) ≡ 2 * n
unfolding woven
length-woven zero [] [] e f = refl
length-woven zero (a ∷ u) w e f = absurd (omega arith)
length-woven zero [] (b ∷ w) e f = absurd (omega arith)
length-woven (suc n) [] w e f = absurd (omega arith)
length-woven (suc n) (a ∷ u) [] e f = absurd (omega arith)
length-woven (suc n) (a ∷ u) (b ∷ w) e f = let h = length-woven n u w (omega arith) (omega arith) in omega arith

even_bits-woven : (n : ℕ) (u w : List Bit) → length u ≡ n → length w ≡ n → even_bits (woven u w) ≡ u
unfolding woven
even_bits-woven zero [] [] e f = refl
even_bits-woven zero (a ∷ u) w e f = absurd (omega arith)
even_bits-woven zero [] (b ∷ w) e f = absurd (omega arith)
even_bits-woven (suc n) [] w e f = absurd (omega arith)
even_bits-woven (suc n) (a ∷ u) [] e f = absurd (omega arith)
even_bits-woven (suc n) (a ∷ u) (b ∷ w) e f = ap (λ x. a ∷ x) (even_bits-woven n u w (omega arith) (omega arith))

odd_bits-woven : (n : ℕ) (u w : List Bit) → length u ≡ n → length w ≡ n → odd_bits (woven u w) ≡ w
unfolding woven
odd_bits-woven zero [] [] e f = refl
odd_bits-woven zero (a ∷ u) w e f = absurd (omega arith)
odd_bits-woven zero [] (b ∷ w) e f = absurd (omega arith)
odd_bits-woven (suc n) [] w e f = absurd (omega arith)
odd_bits-woven (suc n) (a ∷ u) [] e f = absurd (omega arith)
odd_bits-woven (suc n) (a ∷ u) (b ∷ w) e f = ap (λ x. b ∷ x) (odd_bits-woven n u w (omega arith) (omega arith))

length-even_bits : (n : ℕ) (x : List Bit) → length x ≡ 2 * n → length (even_bits x) ≡ n
length-even_bits zero [] e = refl
length-even_bits zero (a ∷ x) e = absurd (omega arith)
length-even_bits (suc n) [] e = absurd (omega arith)
length-even_bits (suc n) (a ∷ []) e = absurd (omega arith)
length-even_bits (suc n) (a ∷ b ∷ x) e = ap suc (length-even_bits n x (omega arith))

length-odd_bits : (n : ℕ) (x : List Bit) → length x ≡ 2 * n → length (odd_bits x) ≡ n
length-odd_bits zero [] e = refl
length-odd_bits zero (a ∷ x) e = absurd (omega arith)
length-odd_bits (suc n) [] e = absurd (omega arith)
length-odd_bits (suc n) (a ∷ []) e = absurd (omega arith)
length-odd_bits (suc n) (a ∷ b ∷ x) e = ap suc (length-odd_bits n x (omega arith))

at_even : (x : List Bit) (j i : ℕ) → i ≡ 2 * j → get_or (even_bits x) j Zero ≡ get_or x i Zero
at_even [] j i e = refl
at_even (a ∷ []) zero zero e = refl
at_even (a ∷ []) zero (suc i) e = absurd (omega arith)
at_even (a ∷ []) (suc j) zero e = absurd (omega arith)
at_even (a ∷ []) (suc j) (suc i) e = refl
at_even (a ∷ b ∷ x) zero zero e = refl
at_even (a ∷ b ∷ x) zero (suc i) e = absurd (omega arith)
at_even (a ∷ b ∷ x) (suc j) zero e = absurd (omega arith)
at_even (a ∷ b ∷ x) (suc j) (suc zero) e = absurd (omega arith)
at_even (a ∷ b ∷ x) (suc j) (suc (suc i)) e = at_even x j i (omega arith)

at_odd : (x : List Bit) (j i : ℕ) → i ≡ 2 * j + 1 → get_or (odd_bits x) j Zero ≡ get_or x i Zero
at_odd x j zero e = absurd (omega arith)
at_odd [] j (suc i) e = refl
at_odd (a ∷ []) j (suc i) e = refl
at_odd (a ∷ b ∷ x) zero (suc zero) e = refl
at_odd (a ∷ b ∷ x) zero (suc (suc i)) e = absurd (omega arith)
at_odd (a ∷ b ∷ x) (suc j) (suc zero) e = absurd (omega arith)
at_odd (a ∷ b ∷ x) (suc j) (suc (suc i)) e = at_odd x j i (omega arith)

-- ---- the least distance, one coordinate by itself

sums_le : (m k p q : ℤ) → m ≤ℤ p → k ≤ℤ q → (m +ℤ k) ≤ℤ (p +ℤ q)
sums_le m k p q h l = omega (arith, ints)

-- a point of two lists of bits
distance-woven : (n amp : ℕ) (y : Point) (u w : List Bit) → length u ≡ n → length w ≡ n
    → distance amp y (point (woven u w)) ≡ level_distance amp y.i u +ℤ level_distance amp y.q w
distance-woven n amp y u w e f =
    ap (λ x. level_distance amp y.i x +ℤ level_distance amp y.q (odd_bits (woven u w))) (even_bits-woven n u w e f)
    ∙ ap (λ x. level_distance amp y.i u +ℤ level_distance amp y.q x) (odd_bits-woven n u w e f)

-- the bit at a place of one half
abbrev Half : (n j : ℕ) → Bit → List Bit → Type 0
Half n j b w = (length w ≡ n) × (get_or w j Zero ≡ b)

first_near : (n amp : ℕ) (y : Point) (j : ℕ) (b : Bit) (m k : ℤ) → IsLeast (Half n j b) (level_distance amp y.i) m → IsLeast (λ (w : List Bit). length w ≡ n) (level_distance amp y.q) k
    → IsNear (2 * n) amp y (2 * j) b (m +ℤ k)
first_near n amp y j b m k own other =
    let u = own.attained.0 in
    let w = other.attained.0 in
    let long = own.attained.1.0 in
    let wide = other.attained.1 in
    record {
      attained = (
        woven u w,
        (
          length-woven n u w long wide,
          sym (at_even (woven u w) j (2 * j) refl) ∙ (ap (λ x. get_or x j Zero) (even_bits-woven n u w long wide) ∙ own.attained.1.1),
        ),
        distance-woven n amp y u w long wide ∙ (ap (λ (z : ℤ). z +ℤ level_distance amp y.q w) own.attained.2 ∙ ap (λ (z : ℤ). m +ℤ z) other.attained.2),
      );
      bound = λ x ok.
          sums_le m k (level_distance amp y.i (even_bits x)) (level_distance amp y.q (odd_bits x))
          (own.bound (even_bits x) (length-even_bits n x ok.0, at_even x j (2 * j) refl ∙ ok.1))
          (other.bound (odd_bits x) (length-odd_bits n x ok.0));
    }

second_near : (n amp : ℕ) (y : Point) (j : ℕ) (b : Bit) (m k : ℤ) → IsLeast (Half n j b) (level_distance amp y.q) m → IsLeast (λ (w : List Bit). length w ≡ n) (level_distance amp y.i) k
    → IsNear (2 * n) amp y (2 * j + 1) b (k +ℤ m)
second_near n amp y j b m k own other =
    let w = own.attained.0 in
    let u = other.attained.0 in
    let long = own.attained.1.0 in
    let wide = other.attained.1 in
    record {
      attained = (
        woven u w,
        (
          length-woven n u w wide long,
          sym (at_odd (woven u w) j (2 * j + 1) refl) ∙ (ap (λ x. get_or x j Zero) (odd_bits-woven n u w wide long) ∙ own.attained.1.1),
        ),
        distance-woven n amp y u w wide long ∙ (ap (λ (z : ℤ). z +ℤ level_distance amp y.q w) other.attained.2 ∙ ap (λ (z : ℤ). k +ℤ z) own.attained.2),
      );
      bound = λ x ok.
          sums_le k m (level_distance amp y.i (even_bits x)) (level_distance amp y.q (odd_bits x))
          (other.bound (even_bits x) (length-even_bits n x ok.0))
          (own.bound (odd_bits x) (length-odd_bits n x ok.0, at_odd x j (2 * j + 1) refl ∙ ok.1));
    }

pub near_least : (qm amp : ℕ) (y : Point) (i : ℕ) (b : Bit) → i < qm → IsNear qm amp y i b (near qm amp y i b)
unfolding near
near_least qm amp y i b h = least_with_bit qm (λ x. distance amp y (point x)) i b h

coordinate_least : (n amp : ℕ) (t : ℤ) (j : ℕ) (b : Bit) → j < n → IsLeast (Half n j b) (level_distance amp t) (coordinate_near n amp t j b)
unfolding coordinate_near
coordinate_least n amp t j b h = least_with_bit n (level_distance amp t) j b h

-- the least over all levels of the other coordinate
other_near : (n amp : ℕ) → ℤ → ℤ
other_near n amp t = least_over n (level_distance amp t)

near_first : (n amp : ℕ) (y : Point) (j : ℕ) (b : Bit) → j < n → near (2 * n) amp y (2 * j) b ≡ coordinate_near n amp y.i j b +ℤ other_near n amp y.q
unfolding other_near
near_first n amp y j b h =
    least_one _ _ _ _ (near_least (2 * n) amp y (2 * j) b (omega arith))
    (first_near n amp y j b (coordinate_near n amp y.i j b) (least_over n (level_distance amp y.q)) (coordinate_least n amp y.i j b h) (least_of_all n (level_distance amp y.q)))

near_second : (n amp : ℕ) (y : Point) (j : ℕ) (b : Bit) → j < n → near (2 * n) amp y (2 * j + 1) b ≡ other_near n amp y.i +ℤ coordinate_near n amp y.q j b
unfolding other_near
near_second n amp y j b h =
    least_one _ _ _ _ (near_least (2 * n) amp y (2 * j + 1) b (omega arith))
    (second_near n amp y j b (coordinate_near n amp y.q j b) (least_over n (level_distance amp y.i)) (coordinate_least n amp y.q j b h) (least_of_all n (level_distance amp y.i)))

same_first : (p q m l k : ℤ) → p ≡ m +ℤ k → q ≡ l +ℤ k → p -ℤ q ≡ m -ℤ l
same_first p q m l k e f = omega (arith, ints)

same_second : (p q m l k : ℤ) → p ≡ k +ℤ m → q ≡ k +ℤ l → p -ℤ q ≡ m -ℤ l
same_second p q m l k e f = omega (arith, ints)

-- ---- soft values

pub soft_value-first : (n amp : ℕ) (y : Point) (j : ℕ) → j < n → soft_value (2 * n) amp y (2 * j) ≡ clamped 127 (coordinate_value n amp y.i j)
unfolding soft_value coordinate_value
soft_value-first n amp y j h =
    ap (λ (z : ℤ). clamped 127 (int_div z (pos (4 * amp)))) (same_first _ _ (coordinate_near n amp y.i j One) (coordinate_near n amp y.i j Zero)
    (other_near n amp y.q) (near_first n amp y j One h) (near_first n amp y j Zero h))

pub soft_value-second : (n amp : ℕ) (y : Point) (j : ℕ) → j < n → soft_value (2 * n) amp y (2 * j + 1) ≡ clamped 127 (coordinate_value n amp y.q j)
unfolding soft_value coordinate_value
soft_value-second n amp y j h =
    ap (λ (z : ℤ). clamped 127 (int_div z (pos (4 * amp)))) (same_second _ _ (coordinate_near n amp y.q j One) (coordinate_near n amp y.q j Zero)
    (other_near n amp y.i) (near_second n amp y j One h) (near_second n amp y j Zero h))

-- a soft value as the code has it, of a value v of the coordinate t
pub first_value : (n amp : ℕ) (y : Point) (j : ℕ) (r v t : ℤ) → j < n → r ≡ clamped 127 (to_z w32 (of_z w32 v)) → to_z w32 (of_z w32 v) ≡ v
    → v ≡ coordinate_value n amp t j → t ≡ y.i → r ≡ soft_value (2 * n) amp y (2 * j)
first_value n amp y j r v t h is fits value e =
    is ∙ (ap (clamped 127) (fits ∙ (value ∙ ap (λ (z : ℤ). coordinate_value n amp z j) e)) ∙ sym (soft_value-first n amp y j h))

pub second_value : (n amp : ℕ) (y : Point) (j : ℕ) (r v t : ℤ) → j < n → r ≡ clamped 127 (to_z w32 (of_z w32 v)) → to_z w32 (of_z w32 v) ≡ v
    → v ≡ coordinate_value n amp t j → t ≡ y.q → r ≡ soft_value (2 * n) amp y (2 * j + 1)
second_value n amp y j r v t h is fits value e =
    is ∙ (ap (clamped 127) (fits ∙ (value ∙ ap (λ (z : ℤ). coordinate_value n amp z j) e)) ∙ sym (soft_value-second n amp y j h))
