-- The pieces of the blocks are G bits together.
use Rattle.std.proofs.Common.{◌≡◌, ℕ, ◌+◌, ◌-◌, ◌*◌, ◌/◌, ◌%◌, ◌<◌, ◌≤◌, nat_lt, true, false, min, zero, suc, sym, ap, ◌∙◌, arith}
use Prim.Native.Nat.{◌∣◌}
use Rattle.std.specs.Int.{div_ceil}
use Rattle.std.specs.List.{range_with_len, sum_by}
use Rattle.std.proofs.lemmas.Bool.{lt-ltb, le-ltb}
use Rattle.std.proofs.lemmas.Nat.{mod_below}
use Rattle.std.proofs.lemmas.Nat.Gcd.{mod-eq-zero_of_dvd}
use Rattle.std.proofs.Math.Nat.{div-add-mod}
use Rattle.model_sender.specs.CircularBuffer.{Match, piece_length}
use Rattle.model_sender.proofs.RangeSums.{sum_by-two_values}

-- n units, u bits each, are dealt to c blocks: c - n % c of them get n / c, the others one more
dealt : (u n c : ℕ) → 1 ≤ c → (c - n % c) * (u * (n / c)) + n % c * (u * div_ceil n c) ≡ u * n
dealt u n c some =
    let whole : c * (n / c) + n % c ≡ n = div-add-mod n c in
    let rest : n % c < c = mod_below n c some in
    shared (n / c) (n % c) (c - n % c) (omega (arith, rest)) whole
  where
    one_more : (q r : ℕ) → r * (u * (q + min 1 r)) ≡ r * (u * (q + 1))
    one_more q zero = let e : 0 * (u * (q + min 1 0)) ≡ 0 * (u * (q + 1)) = omega arith in e
    one_more q (suc r) = ap (λ (k : ℕ). suc r * (u * (q + k))) (let e : min 1 (suc r) ≡ 1 = omega arith in e)

    shared : (q r t : ℕ) → t + r ≡ c → c * q + r ≡ n → t * (u * q) + r * (u * (q + min 1 r)) ≡ u * n
    shared q r t parts whole =
        let all : n ≡ (t + r) * q + r = sym whole ∙ ap (λ (k : ℕ). k * q + r) (sym parts) in
        let spread : u * ((t + r) * q + r) ≡ t * (u * q) + r * (u * (q + 1)) = omega arith in
        omega (arith, ap (λ (k : ℕ). u * k) all, spread, one_more q r)

pub pieces-sum : (m : Match) (c : ℕ) → 1 ≤ c → 1 ≤ m.nl * m.qm → m.nl * m.qm ∣ m.g → sum_by (piece_length m c) (range_with_len 0 c) ≡ m.g
pieces-sum m c some unit divides =
    let u : ℕ = m.nl * m.qm in
    let n : ℕ = m.g / u in
    let whole : u * n + m.g % u ≡ m.g = div-add-mod m.g u in
    let none : m.g % u ≡ 0 = mod-eq-zero_of_dvd u divides in
    let rest : n % c < c = mod_below n c some in
    let e : c ≡ c - n % c + n % c = omega (arith, rest) in
    let less : (r : ℕ) → r < c - n % c → nat_lt (r + n % c) c ≡ true = λ r h. lt-ltb (r + n % c) c (omega (arith, h)) in
    let more : (r : ℕ) → c - n % c ≤ r → nat_lt (r + n % c) c ≡ false = λ r h. le-ltb (r + n % c) c (omega (arith, h, rest)) in
    ap (λ (k : ℕ). sum_by (piece_length m c) (range_with_len 0 k)) e
    ∙ sum_by-two_values (λ r. nat_lt (r + n % c) c) (c - n % c) (n % c) (u * (n / c)) (u * div_ceil n c) less more
    ∙ dealt u n c some
    ∙ omega (arith, whole, none)
