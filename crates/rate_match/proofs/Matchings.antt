-- Bounds of the numbers of a matching.
use Rattle.std.proofs.Common.{◌≡◌, ℕ, zero, suc, ◌+◌, ◌*◌, ◌/◌, ◌%◌, ◌≤◌, nat_lt, Bool, true, false, if◌then◌else◌, ◌&&◌, ◌||◌, nat_le, ◌==◌, inl, inr, arith}
use Prim.Native.Nat.{◌∣◌}
use Rattle.std.proofs.lemmas.Bool.{and_parts, or_cases, leb-true, eqb-true}
use Rattle.std.proofs.lemmas.Nat.Gcd.{dvd_of_mod-eq-zero}
use Rattle.std.proofs.Math.Nat.{div-add-mod, mul-le-mul_left}
use Rattle.std.specs.Int.{div_ceil}
use Rattle.model_sender.specs.CircularBuffer.{Match, piece_length}
use Rattle.rate_match.specs.Matching.{IsMatch, is_qm, is_nl}

pub record IsBounded (m : Match) : Type 0 where
  pub unit : 1 ≤ m.nl * m.qm
  pub small : m.nl * m.qm ≤ 12
  pub divides : m.nl * m.qm ∣ m.g
  pub some : 1 ≤ m.g
  pub few : m.g ≤ 1000000

record IsFew (a b n : ℕ) : Type 0 where
  low : a ≤ n
  high : n ≤ b

bits : (qm : ℕ) → is_qm qm ≡ true → IsFew 2 6 qm
bits qm is =
    elim (or_cases (qm == 2 || qm == 4) (qm == 6) is) [
      | inl h ↦ elim (or_cases (qm == 2) (qm == 4) h) [
        | inl two ↦ (let e : qm ≡ 2 = eqb-true qm 2 two in record { low = omega (arith, e); high = omega (arith, e) })
        | inr four ↦ (let e : qm ≡ 4 = eqb-true qm 4 four in record { low = omega (arith, e); high = omega (arith, e) })
      ]
      | inr six ↦ (let e : qm ≡ 6 = eqb-true qm 6 six in record { low = omega (arith, e); high = omega (arith, e) })
    ]

layers : (nl : ℕ) → is_nl nl ≡ true → IsFew 1 2 nl
layers nl is =
    elim (or_cases (nl == 1) (nl == 2) is) [
      | inl one ↦ (let e : nl ≡ 1 = eqb-true nl 1 one in record { low = omega (arith, e); high = omega (arith, e) })
      | inr two ↦ (let e : nl ≡ 2 = eqb-true nl 2 two in record { low = omega (arith, e); high = omega (arith, e) })
    ]

-- a product of numbers from 1 to 2 and from 2 to 6
product : (nl qm : ℕ) → IsFew 1 2 nl → IsFew 2 6 qm → IsFew 1 12 (nl * qm)
product nl qm few small =
    let low : nl * 2 ≤ nl * qm = mul-le-mul_left nl small.low in
    let high : nl * qm ≤ nl * 6 = mul-le-mul_left nl small.high in
    record { low = omega (arith, low, few.low); high = omega (arith, high, few.high) }

pub match-bounds : (m : Match) → IsMatch m → IsBounded m
match-bounds m is =
    let parts = and_parts (nat_le 1 m.g && nat_le m.g 1000000) (m.g % (m.nl * m.qm) == 0) is.g in
    let bounds = and_parts (nat_le 1 m.g) (nat_le m.g 1000000) parts.0 in
    let unit = product m.nl m.qm (layers m.nl is.nl) (bits m.qm is.qm) in
    record {
      unit = unit.low;
      small = unit.high;
      divides = dvd_of_mod-eq-zero (m.nl * m.qm) (eqb-true (m.g % (m.nl * m.qm)) 0 parts.1);
      some = leb-true 1 m.g bounds.0;
      few = leb-true m.g 1000000 bounds.1;
    }

-- no block sends more than all of them
pub piece-most : (m : Match) (c r : ℕ) → 1 ≤ c → piece_length m c r ≤ m.g
piece-most m zero r some = absurd (omega (arith, some))
piece-most m (suc d) r some =
    let u : ℕ = m.nl * m.qm in
    let n : ℕ = m.g / u in
    let whole : u * n + m.g % u ≡ m.g = div-add-mod m.g u in
    let parts : suc d * (n / suc d) + n % suc d ≡ n = div-add-mod n (suc d) in
    let spread : suc d * (n / suc d) ≡ n / suc d + d * (n / suc d) = omega arith in
    let fewer : u * (n / suc d) ≤ u * n = mul-le-mul_left u (let h : n / suc d ≤ n = omega (arith, parts, spread) in h) in
    let more : u * div_ceil n (suc d) ≤ u * n = mul-le-mul_left u (let h : div_ceil n (suc d) ≤ n = omega (arith, parts, spread) in h) in
    by_test (nat_lt (r + n % suc d) (suc d)) (u * (n / suc d)) (u * div_ceil n (suc d)) (omega (arith, fewer, whole)) (omega (arith, more, whole))
  where
    by_test : (t : Bool) (a b : ℕ) → a ≤ m.g → b ≤ m.g → (if t then a else b) ≤ m.g
    by_test true a b first second = first
    by_test false a b first second = second
