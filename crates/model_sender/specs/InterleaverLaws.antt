-- The laws of the interleaver: a lawful row permutes its places, keeps remainders, and keeps windows in banks
-- of their own.
use Rattle.std.proofs.Common.{◌≡◌, ℕ, ◌+◌, ◌-◌, ◌*◌, ◌/◌, ◌%◌, ◌^◌, ◌<◌, ◌≤◌, zero, suc, sym, ap, ◌∙◌, subst, inl, inr, arith}
use Prim.Native.Nat.{◌∣◌}
use Rattle.std.proofs.lemmas.Nat.{mod_below, mul-pow, mul-mod}
use Rattle.std.proofs.lemmas.Nat.Gcd.{dvd_of_mod-eq-zero, mod-eq-zero_of_dvd, le_of_dvd}
use Rattle.std.proofs.lemmas.Bool.{cases_lt}
use Rattle.std.proofs.Math.Nat.{dvd-mul_right, dvd-mul_left_of_dvd, dvd-mul_right_of_dvd, dvd-sub, mod-mod_of_dvd, pow-suc, pow-zero, add-mul-mod_self_left, div-add-mod, mul-le-mul_left}
use Rattle.model_sender.specs.Interleaver.{IsUnit, Lawful, pi, bank, row}

-- two numbers with one remainder differ by a multiple
differ-dvd : (k a b : ℕ) → a % k ≡ b % k → k ∣ b - a
differ-dvd k a b e =
    let x : k * (a / k) + a % k ≡ a = div-add-mod a k in
    let y : k * (b / k) + b % k ≡ b = div-add-mod b k in
    let d : k ∣ k * (b / k) - k * (a / k) = dvd-sub k (dvd-mul_right k (b / k)) (dvd-mul_right k (a / k)) in
    let s : k * (b / k) - k * (a / k) ≡ b - a = omega (arith, x, y, e) in
    subst (λ (n : ℕ). k ∣ n) s d

-- a unit cancels
unit-cancels : (k f x : ℕ) → IsUnit k f → k ∣ x * f → k ∣ x
unit-cancels k f x u d =
    let v = u.0 in
    let a : k ∣ x * f * v = dvd-mul_right_of_dvd k d v in
    let e : x * (f * v) % k ≡ x * 1 % k = same_product k x (f * v) 1 u.1 in
    let z : x * (f * v) % k ≡ 0 = ap (λ n. n % k) (let s : x * (f * v) ≡ x * f * v = omega arith in s) ∙ mod-eq-zero_of_dvd k a in
    let one : x * 1 ≡ x = omega arith in
    dvd_of_mod-eq-zero k (sym (ap (λ n. n % k) one) ∙ (sym e ∙ z))
  where
    same_product : (k x a b : ℕ) → a % k ≡ b % k → x * a % k ≡ x * b % k
    same_product k x a b e = mul-mod x a k ∙ (ap (λ n. x % k * n % k) e ∙ sym (mul-mod x b k))

-- k divides d (f + n), where f is a unit: then d n^j is a multiple only if d is
falls : (k f n d j : ℕ) → IsUnit k f → k ∣ d * (f + n) → k ∣ d * n ^ j → k ∣ d
falls k f n d zero u h p = subst (λ (x : ℕ). k ∣ x) (ap (λ y. d * y) (pow-zero n) ∙ (let s : d * 1 ≡ d = omega arith in s)) p
falls k f n d (suc j) u h p =
    let x : ℕ = d * n ^ j in
    let e : d * n ^ suc j ≡ x * n = ap (λ y. d * y) (pow-suc n j) ∙ (let s : d * (n ^ j * n) ≡ d * n ^ j * n = omega arith in s) in
    let whole : n ^ j * (d * (f + n)) ≡ d * n ^ j * (f + n) = omega arith in
    let a : k ∣ x * (f + n) = subst (λ (y : ℕ). k ∣ y) whole (dvd-mul_left_of_dvd k h (n ^ j)) in
    let b : k ∣ x * n = subst (λ (y : ℕ). k ∣ y) e p in
    let c : k ∣ x * (f + n) - x * n = dvd-sub k a b in
    let s : x * (f + n) - x * n ≡ x * f = omega arith in
    falls k f n d j u h (unit-cancels k f x u (subst (λ (y : ℕ). k ∣ y) s c))

-- f1 + f2 s cancels
lawful-cancels : (k f1 f2 s d : ℕ) → Lawful k f1 f2 → k ∣ d * (f1 + f2 * s) → k ∣ d
lawful-cancels k f1 f2 s d law h =
    let a : k ∣ f2 ^ 7 = dvd_of_mod-eq-zero k law.nilpotent in
    let b : k ∣ f2 ^ 7 * s ^ 7 = dvd-mul_right_of_dvd k a (s ^ 7) in
    let c : k ∣ (f2 * s) ^ 7 = subst (λ (y : ℕ). k ∣ y) (sym (mul-pow f2 s 7)) b in
    falls k f1 (f2 * s) d 7 law.unit h (dvd-mul_left_of_dvd k c d)

-- two places of one value, the first not above the second
in_order : (k f1 f2 i j : ℕ) → Lawful k f1 f2 → i ≤ j → j < k → pi k f1 f2 i ≡ pi k f1 f2 j → i ≡ j
in_order k f1 f2 i j law le lt e =
    let p : k ∣ f1 * j + f2 * j * j - (f1 * i + f2 * i * i) = differ-dvd k (f1 * i + f2 * i * i) (f1 * j + f2 * j * j) e in
    let d : ℕ = j - i in
    let s : f1 * j + f2 * j * j - (f1 * i + f2 * i * i) ≡ d * (f1 + f2 * (i + j)) = difference f1 f2 i j d (omega (arith, le)) in
    let q : k ∣ d = lawful-cancels k f1 f2 (i + j) d law (subst (λ (y : ℕ). k ∣ y) s p) in
    zero_from k d i j q (omega (arith, le)) lt
  where
    difference : (f1 f2 i j d : ℕ) → i + d ≡ j → f1 * j + f2 * j * j - (f1 * i + f2 * i * i) ≡ d * (f1 + f2 * (i + j))
    difference f1 f2 i j d e =
        let s : f1 * (i + d) + f2 * (i + d) * (i + d) - (f1 * i + f2 * i * i)
        ≡ d * (f1 + f2 * (i + (i + d))) = omega arith in
        rw (← e) s

    zero_from : (k d i j : ℕ) → k ∣ d → i + d ≡ j → j < k → i ≡ j
    zero_from k zero i j q e lt = omega (arith, e)
    zero_from k (suc d) i j q e lt = absurd (let h : k ≤ suc d = le_of_dvd (let z : 0 < suc d = omega arith in z) q in omega (arith, h, e, lt))

-- different places have different values
pub pi_differs : (k f1 f2 i j : ℕ) → Lawful k f1 f2 → i < k → j < k → pi k f1 f2 i ≡ pi k f1 f2 j → i ≡ j
pi_differs k f1 f2 i j law li lj e =
    elim (cases_lt i j) [ inl h ↦ in_order k f1 f2 i j law (omega (arith, h)) lj e | inr h ↦ sym (in_order k f1 f2 j i law h li (sym e)) ]

-- a value is below the size
pub pi_below : (k f1 f2 i : ℕ) → 1 ≤ k → pi k f1 f2 i < k
pi_below k f1 f2 i h = mod_below (f1 * i + f2 * i * i) k (omega (arith, h))

-- places that lie a divisor of the size apart have values with one remainder by it
pub pi_remainder : (k f1 f2 w i : ℕ) → w ∣ k → pi k f1 f2 (i + w) % w ≡ pi k f1 f2 i % w
pi_remainder k f1 f2 w i d =
    mod-mod_of_dvd w (f1 * (i + w) + f2 * (i + w) * (i + w)) d
    ∙ (ap (λ n. n % w) (let s : f1 * (i + w) + f2 * (i + w) * (i + w) ≡ f1 * i + f2 * i * i + w * (f1 + f2 * (i + i + w)) = omega arith in s)
    ∙ (plus_multiple (f1 * i + f2 * i * i) w (f1 + f2 * (i + i + w))
    ∙ sym (mod-mod_of_dvd w (f1 * i + f2 * i * i) d)))
  where
    plus_multiple : (a w b : ℕ) → (a + w * b) % w ≡ a % w
    plus_multiple a w b = add-mul-mod_self_left a w b

-- m windows of the width k / m are all of k
pub windows-whole : (k m : ℕ) → m ∣ k → m * (k / m) ≡ k
windows-whole k m d = let e : m * (k / m) + k % m ≡ k = div-add-mod k m in let z : k % m ≡ 0 = mod-eq-zero_of_dvd m d in omega (arith, e, z)

-- the width divides k
pub width_divides : (k m : ℕ) → m ∣ k → k / m ∣ k
width_divides k m d =
    let w : ℕ = k / m in
    let s : w * m ≡ k = (let c : w * m ≡ m * w = omega arith in c) ∙ windows-whole k m d in
    subst (λ (n : ℕ). w ∣ n) s (dvd-mul_right w m)

-- place j of window t is a place
pub window_place_below : (k m j t : ℕ) → m ∣ k → j < k / m → t < m → j + t * (k / m) < k
window_place_below k m j t d lj lt = within (k / m) (windows-whole k m d) lj lt
  where
    within : (w : ℕ) → m * w ≡ k → j < w → t < m → j + t * w < k
    within w e lj lt =
        let le : w * suc t ≤ w * m = mul-le-mul_left w (let h : suc t ≤ m = omega arith in h) in
        let a : w * suc t ≡ t * w + w = omega arith in
        let c : w * m ≡ m * w = omega arith in
        omega (arith, le, a, c, e)

-- f permutes the places below k, and keeps remainders by each divisor of k
pub record IsInterleaver (k : ℕ) (f : ℕ → ℕ) : Type 0 where
  pub below : (i : ℕ) → i < k → f i < k
  pub apart : (i j : ℕ) → i < k → j < k → f i ≡ f j → i ≡ j
  pub kept : (i w : ℕ) → w ∣ k → i + w < k → f (i + w) % w ≡ f i % w

-- a lawful row is one
pub lawful-interleaves : (k f1 f2 : ℕ) → Lawful k f1 f2 → IsInterleaver k (pi k f1 f2)
lawful-interleaves k f1 f2 law = record {
  below = λ i h. pi_below k f1 f2 i law.positive;
  apart = λ i j. pi_differs k f1 f2 i j law;
  kept = λ i w d h. pi_remainder k f1 f2 w i d;
}

-- the values of place j of all windows have one row
pub row-window : (k : ℕ) (f : ℕ → ℕ) (m j t : ℕ) → IsInterleaver k f → m ∣ k → j < k / m → t < m
    → row (k / m) (f (j + t * (k / m))) ≡ row (k / m) (f j)
row-window k f m j t law d lj lt = rows t lt
  where
    rows : (t : ℕ) → t < m → row (k / m) (f (j + t * (k / m))) ≡ row (k / m) (f j)
    rows zero lt = ap (λ n. f n % (k / m)) (let s : j + 0 * (k / m) ≡ j = omega arith in s)
    rows (suc t) lt =
        let s : j + suc t * (k / m) ≡ j + t * (k / m) + k / m = omega arith in
        let inside : j + t * (k / m) + k / m < k = subst (λ (n : ℕ). n < k) s (window_place_below k m j (suc t) d lj lt) in
        ap (λ n. f n % (k / m)) s ∙ (law.kept (j + t * (k / m)) (k / m) (width_divides k m d) inside ∙ rows t (omega (arith, lt)))

-- and the values of two windows stand in different banks
pub bank-window : (k : ℕ) (f : ℕ → ℕ) (m j t u : ℕ) → IsInterleaver k f → m ∣ k → j < k / m → t < m → u < m
    → bank (k / m) (f (j + t * (k / m))) ≡ bank (k / m) (f (j + u * (k / m))) → t ≡ u
bank-window k f m j t u law d lj lt lu e =
    let w : ℕ = k / m in
    let rows : f (j + t * w) % w ≡ f (j + u * w) % w = row-window k f m j t law d lj lt ∙ sym (row-window k f m j u law d lj lu) in
    let same : f (j + t * w) ≡ f (j + u * w) =
    sym (div-add-mod (f (j + t * w)) w)
    ∙ (ap (λ q. w * q + f (j + t * w) % w) e
    ∙ (ap (λ r. w * (f (j + u * w) / w) + r) rows ∙ div-add-mod (f (j + u * w)) w)) in
    let places : j + t * w ≡ j + u * w =
    law.apart (j + t * w) (j + u * w) (window_place_below k m j t d lj lt) (window_place_below k m j u d lj lu) same in
    cancels w t u (omega (arith, lj)) (omega (arith, places))
  where
    cancels : (w t u : ℕ) → 1 ≤ w → t * w ≡ u * w → t ≡ u
    cancels w t u h e =
        elim (cases_lt t u) [
          | inl lt ↦ absurd (below w t u h lt e)
          | inr le ↦ elim (cases_lt u t) [ inl lt ↦ absurd (below w u t h lt (sym e)) | inr ge ↦ omega (arith, le, ge) ]
        ]
      where
        below : (w t u : ℕ) → 1 ≤ w → t < u → t * w ≡ u * w → ⊥
        below w t u h lt e =
            let le : w * suc t ≤ w * u = mul-le-mul_left w (let g : suc t ≤ u = omega (arith, lt) in g) in
            let a : w * suc t ≡ t * w + w = omega arith in
            let c : w * u ≡ u * w = omega arith in
            omega (arith, le, a, c, e, h)

-- the banks are those of m windows
pub bank_below : (k m n : ℕ) → m ∣ k → n < k → bank (k / m) n < m
bank_below k m n d lt = under (k / m) (windows-whole k m d) lt
  where
    under : (w : ℕ) → m * w ≡ k → n < k → n / w < m
    under w e lt =
        elim (cases_lt (n / w) m) [
          | inl h ↦ h
          | inr h ↦ absurd (
              let le : w * m ≤ w * (n / w) = mul-le-mul_left w h in
              let q : w * (n / w) + n % w ≡ n = div-add-mod n w in
              let c : w * m ≡ m * w = omega arith in
              omega (arith, le, q, c, e, lt))
        ]
