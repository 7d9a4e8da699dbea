-- Euclid's remainders of k and f: what they show of an inverse of f modulo k.
use Rattle.std.proofs.Common.{◌≡◌, ℕ, ◌+◌, ◌-◌, ◌*◌, ◌/◌, ◌%◌, ◌<◌, sym, ap, ◌∙◌, subst, arith}
use Prim.Native.Nat.{◌∣◌}
use Rattle.std.proofs.lemmas.Nat.{mul-mod}
use Rattle.std.proofs.lemmas.Nat.Gcd.{dvd_antisymm, dvd_refl, dvd-zero, dvd_of_mod-eq-zero, mod-eq-zero_of_dvd}
use Rattle.std.proofs.Math.Nat.{add-mod, add-mul-mod_self_left, div-add-mod, dvd-add, dvd-sub, dvd-mul_right_of_dvd}
use Rattle.model_sender.specs.Interleaver.{IsUnit}

-- a multiple of f has the remainder of a modulo k
abbrev pub IsReached : ℕ → ℕ → ℕ → Type 0
IsReached k f a = (v : ℕ) × (f * v % k ≡ a % k)

same_product : (k x a b : ℕ) → a % k ≡ b % k → x * a % k ≡ x * b % k
same_product k x a b e = mul-mod x a k ∙ (ap (λ n. x % k * n % k) e ∙ sym (mul-mod x b k))

same_sum : (k a b c d : ℕ) → a % k ≡ b % k → c % k ≡ d % k → (a + c) % k ≡ (b + d) % k
same_sum k a b c d e h = add-mod a c k ∙ (ap (λ n. (n + c % k) % k) e ∙ (ap (λ n. (b % k + n) % k) h ∙ sym (add-mod b d k)))

-- k and f are reached
pub reached_whole : (k f : ℕ) → 0 < k → IsReached k f k
reached_whole k f h =
    (0, (let e : f * 0 ≡ 0 = omega arith in ap (λ n. n % k) e) ∙ (mod-eq-zero_of_dvd k (dvd-zero k) ∙ sym (mod-eq-zero_of_dvd k (dvd_refl k))))

pub reached_once : (k f : ℕ) → IsReached k f f
reached_once k f = (1, (let e : f * 1 ≡ f = omega arith in ap (λ n. n % k) e))

-- and so is the remainder of a by b, where both are
pub reached_rest : (k f a b : ℕ) → 0 < k → IsReached k f a → IsReached k f b → IsReached k f (a % b)
reached_rest k f a b h x y =
    let q : ℕ = a / b in
    let m : ℕ = k - 1 in
    let split : b * q + a % b ≡ a = div-add-mod a b in (
      x.0 + m * q * y.0,
      ap (λ n. n % k) (let e : f * (x.0 + m * q * y.0) ≡ f * x.0 + m * q * (f * y.0) = omega arith in e)
          ∙ (same_sum k (f * x.0) a (m * q * (f * y.0)) (m * q * b) x.1 (same_product k (m * q) (f * y.0) b y.1)
          ∙ (ap (λ n. n % k) (whole k m a b q (a % b) (omega (arith, h)) split)
          ∙ add-mul-mod_self_left (a % b) k (q * b))),
    )
  where
    whole : (k m a b q r : ℕ) → k ≡ m + 1 → b * q + r ≡ a → a + m * q * b ≡ r + k * (q * b)
    whole k m a b q r e split =
        let s : b * q + r + m * q * b ≡ r + (m + 1) * (q * b) = omega arith in
        ap (λ n. n + m * q * b) (sym split) ∙ (s ∙ ap (λ n. r + n * (q * b)) (sym e))

-- a common divisor of k and a unit is 1
pub one_from_unit : (k f g : ℕ) → g ∣ k → g ∣ f → IsUnit k f → g ≡ 1
one_from_unit k f g dk df u =
    let n : ℕ = f * u.0 in
    let dn : g ∣ n = dvd-mul_right_of_dvd g df u.0 in
    let split : k * (n / k) + n % k ≡ n = div-add-mod n k in
    let one : k * (1 / k) + 1 % k ≡ 1 = div-add-mod 1 k in
    let rest : n - k * (n / k) ≡ 1 % k = omega (arith, split, u.1) in
    let dr : g ∣ 1 % k = subst (λ (x : ℕ). g ∣ x) rest (dvd-sub g dn (dvd-mul_right_of_dvd g dk (n / k))) in
    let d1 : g ∣ 1 = subst (λ (x : ℕ). g ∣ x) one (dvd-add g (dvd-mul_right_of_dvd g dk (1 / k)) dr) in
    dvd_antisymm d1 (dvd_of_mod-eq-zero 1 (omega arith))
