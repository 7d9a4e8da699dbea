-- The plan of 1 to 18,722 bytes.
use Rattle.std.proofs.Common.{◌≡◌, ℕ, ◌+◌, ◌-◌, ◌*◌, ◌/◌, ◌%◌, ◌<◌, ◌≤◌, ◌==◌, nat_le, nat_lt, Bool, true, false, cond, filter, min, refl, sym, ap, ◌∙◌, subst, inl, inr, arith}
use Rattle.std.specs.Int.{div_ceil}
use Rattle.std.proofs.lemmas.Bool.{cases_lt, eqb-true, eqb-false, leb-true, leb-false, le-leb, lt-ltb, ltb-true}
use Rattle.std.proofs.lemmas.Nat.{mod_below}
use Rattle.std.proofs.Math.Nat.{div-add-mod, mul-le-mul_left}
use Rattle.model_sender.specs.Bits.{greatest}
use Rattle.model_sender.specs.Interleaver.{sizes}
use Rattle.model_sender.specs.Segmentation.{Plan, bits_of, count_of, check_length, carried, larger_size, smaller_size, planned, plan_of}
use Rattle.model_sender.proofs.Extremes.{IsLeastPassing, IsGreatestPassing, least-passes, greatest-passes}
use Rattle.model_sender.proofs.SizeTable.{size_6144, size-lower}

-- ---- the number of blocks

record IsCount (b c : ℕ) : Type 0 where
  some : 1 ≤ c
  few : c ≤ 25
  room : b + c * check_length c ≤ c * 6144
  several : 1 < c → 6144 < b

counted : (b : ℕ) → 32 ≤ b → b ≤ 149800 → IsCount b (count_of b)
counted b low high = by_test (nat_le b 6144) refl
  where
    by_test : (t : Bool) → nat_le b 6144 ≡ t → IsCount b (cond t 1 (div_ceil b (6144 - 24)))
    by_test true e = record {
      some = omega arith;
      few = omega arith;
      room = omega (arith, leb-true b 6144 e);
      several = λ h. absurd (omega (arith, h));
    }
    by_test false e =
        let large : 6144 < b = leb-false b 6144 e in
        let c : ℕ = div_ceil b 6120 in
        let whole : 6120 * (b / 6120) + b % 6120 ≡ b = div-add-mod b 6120 in
        let rest : b % 6120 < 6120 = mod_below b 6120 (omega arith) in
        let is : c ≡ b / 6120 + min 1 (b % 6120) = refl in
        let two : 1 < c = omega (arith, large, whole, rest, is) in
        let own : check_length c ≡ 24 = ap (λ (t : Bool). cond t 24 0) (lt-ltb 1 c two) in
        let product : c * check_length c ≡ 24 * c = ap (λ (l : ℕ). c * l) own ∙ (let e : c * 24 ≡ 24 * c = omega arith in e) in
        record {
          some = omega (arith, two);
          few = omega (arith, whole, rest, is, high);
          room = omega (arith, whole, rest, is, product);
          several = λ h. large;
        }

-- ---- how many of them are smaller

record IsSplit (c n k_plus k_minus q : ℕ) : Type 0 where
  few : q < c
  filled : (c - q) * k_plus + q * k_minus ≡ n + ((c - q) * k_plus + q * k_minus - n)
  fillers : (c - q) * k_plus + q * k_minus - n < k_plus - k_minus

split : (c n k d : ℕ) → 0 < d → n ≤ c * (k + d) → c * k < n → IsSplit c n (k + d) k ((c * (k + d) - n) / (k + d - k))
split c n k d some enough above =
    let step : k + d - k ≡ d = omega arith in
    subst (λ (e : ℕ). IsSplit c n (k + d) k ((c * (k + d) - n) / e)) (sym step) (by_step ((c * (k + d) - n) / d) refl)
  where
    by_step : (q : ℕ) → (c * (k + d) - n) / d ≡ q → IsSplit c n (k + d) k q
    by_step q is =
        let s : ℕ = c * (k + d) - n in
        let r : ℕ = s % d in
        let whole : d * q + r ≡ s = ap (λ (x : ℕ). d * x + r) (sym is) ∙ div-add-mod s d in
        let rest : r < d = mod_below s d some in
        let room : c * (k + d) ≡ c * k + d * c = omega arith in
        let few : q < c = elim (cases_lt q c) [ inl h ↦ h | inr h ↦ absurd (let le : d * c ≤ d * q = mul-le-mul_left d h in omega (arith, le, whole, room, above, enough)) ] in
        let value : (c - q) * (k + d) + q * k ≡ n + r = totalled q (c - q) r c (omega (arith, few)) (omega (arith, whole, enough)) in
        record { few = few; filled = omega (arith, value); fillers = omega (arith, value, rest) }
      where
        totalled : (q t r c : ℕ) → q + t ≡ c → d * q + r + n ≡ c * (k + d) → t * (k + d) + q * k ≡ n + r
        totalled q t r c parts whole =
            let all : d * q + r + n ≡ (q + t) * (k + d) = whole ∙ ap (λ (x : ℕ). x * (k + d)) (sym parts) in
            let spread : (q + t) * (k + d) ≡ t * (k + d) + q * k + d * q = omega arith in
            omega (arith, all, spread)

-- ---- the plan

-- one block, which is of size K+
pub record IsAlone (p : Plan) : Type 0 where
  pub none : p.c_minus ≡ 0
  pub fillers : p.f < p.k_plus

-- several blocks
pub record IsSeveral (p : Plan) : Type 0 where
  pub smaller : IsGreatestPassing (λ k. nat_lt k p.k_plus) sizes p.k_minus
  pub fillers : p.f < 64
  pub large : 100 ≤ p.k_minus

-- a plan for n bits
pub record IsSound (n : ℕ) (p : Plan) : Type 0 where
  pub some : 1 ≤ p.c
  pub few : p.c ≤ 25
  pub larger : IsLeastPassing (λ k. nat_le n (p.c * k)) sizes p.k_plus
  pub counts : p.c_plus + p.c_minus ≡ p.c
  pub smaller_few : p.c_minus < p.c
  pub filled : p.c_plus * p.k_plus + p.c_minus * p.k_minus ≡ n + p.f
  pub alone : p.c ≡ 1 → IsAlone p
  pub several : 1 < p.c → IsSeveral p

sound : (bytes c n : ℕ) → 1 ≤ c → c ≤ 25 → 1 ≤ n → n ≤ c * 6144 → (1 < c → 6144 < n)
    → IsSound n (planned bytes (record { c = c; bits = n; k_plus = larger_size c n; k_minus = smaller_size c (larger_size c n) }))
sound bytes c n some few bits room several = by_count (c == 1) refl
  where
    -- m blocks of j bits, and the others of k
    plan_with : (k j m : ℕ) → Plan
    plan_with k j m = record {
      bytes = bytes;
      c = c;
      k_plus = k;
      k_minus = j;
      c_plus = c - m;
      c_minus = m;
      f = (c - m) * k + m * j - n;
    }

    largest : IsLeastPassing (λ k. nat_le n (c * k)) sizes (larger_size c n)
    largest = least-passes (λ k. nat_le n (c * k)) sizes 6144 size_6144 (le-leb n (c * 6144) room)

    enough : n ≤ c * larger_size c n
    enough = leb-true n (c * larger_size c n) largest.pass

    by_count : (t : Bool) → (c == 1) ≡ t → IsSound n (plan_with (larger_size c n) (cond t 0 (greatest (filter (λ k. nat_lt k (larger_size c n)) sizes)))
        (cond t 0 ((c * larger_size c n - n) / (larger_size c n - cond t 0 (greatest (filter (λ k. nat_lt k (larger_size c n)) sizes))))))
    by_count true e =
        let one : c ≡ 1 = eqb-true c 1 e in
        let k : ℕ = larger_size c n in
        let all : c * k ≡ k = ap (λ (m : ℕ). m * k) one ∙ (let u : 1 * k ≡ k = omega arith in u) in
        let alone : c - 0 ≡ 1 = omega (arith, one) in
        let value : (c - 0) * k + 0 * 0 ≡ k = ap (λ (m : ℕ). m * k + 0 * 0) alone ∙ (let u : 1 * k + 0 * 0 ≡ k = omega arith in u) in
        record {
          some = some;
          few = few;
          larger = largest;
          counts = omega arith;
          smaller_few = omega (arith, some);
          filled = omega (arith, value, all, enough);
          alone = λ h. record { none = refl; fillers = omega (arith, value, all, enough, bits) };
          several = λ h. absurd (omega (arith, h, one));
        }
    by_count false e =
        let two : 1 < c = let other : c ≡ 1 → ⊥ = eqb-false c 1 e in omega (arith, some, other) in
        let k : ℕ = larger_size c n in
        let large : 240 ≤ k = elim (cases_lt k 240) [
          | inr h ↦ h
          | inl h ↦ absurd
              (let le : c * k ≤ c * 240 = mul-le-mul_left c (let l : k ≤ 240 = omega (arith, h) in l) in omega (arith, le, enough, few, several two))
        ] in
        let near = size-lower k largest.inside (omega (arith, large)) in
        let second = greatest-passes (λ j. nat_lt j k) sizes near.0 near.1 (lt-ltb near.0 k near.2) in
        several_blocks k (greatest (filter (λ j. nat_lt j k) sizes)) two largest second large
        (let le : near.0 ≤ greatest (filter (λ j. nat_lt j k) sizes) = second.greatest near.0 near.1 (lt-ltb near.0 k near.2) in omega (arith, le, near.3))
      where
        several_blocks : (k j : ℕ) → 1 < c → IsLeastPassing (λ k. nat_le n (c * k)) sizes k → IsGreatestPassing (λ j. nat_lt j k) sizes j → 240 ≤ k → k ≤ j + 64
            → IsSound n (plan_with k j ((c * k - n) / (k - j)))
        several_blocks k j two first second large near =
            let room : n ≤ c * k = leb-true n (c * k) first.pass in
            let below : j < k = ltb-true j k second.pass in
            let above : c * j < n = elim (cases_lt (c * j) n) [ inl h ↦ h | inr h ↦ absurd (let le : k ≤ j = first.least j second.inside (le-leb n (c * j) h) in omega (arith, le, below)) ] in
            let d : ℕ = k - j in
            let sum : j + d ≡ k = omega (arith, below) in
            let parts : IsSplit c n k j ((c * k - n) / (k - j)) = subst (λ (m : ℕ). IsSplit c n m j ((c * m - n) / (m - j))) sum
            (split c n j d (omega (arith, below)) (subst (λ (m : ℕ). n ≤ c * m) (sym sum) room) above) in
            record {
              some = some;
              few = few;
              larger = first;
              counts = omega (arith, parts.few);
              smaller_few = parts.few;
              filled = parts.filled;
              alone = λ h. absurd (omega (arith, h, two));
              several = λ h. record { smaller = second; fillers = omega (arith, parts.fillers, near); large = omega (arith, near, large) };
            }

-- the plan of 1 to 18,722 bytes is one for all bits that are carried
pub plan-sound : (bytes : ℕ) → 1 ≤ bytes → bytes ≤ 18722 → IsSound (carried (bits_of bytes)) (plan_of bytes)
unfolding plan_of
plan-sound bytes some few =
    let count = counted (bits_of bytes) (omega (arith, some)) (omega (arith, few)) in
    sound bytes (count_of (bits_of bytes)) (carried (bits_of bytes)) count.some count.few (omega (arith, some)) count.room (λ h. omega (arith, count.several h))

pub plan-count : (bytes : ℕ) → (plan_of bytes).c ≡ count_of (bits_of bytes)
unfolding plan_of
plan-count bytes = refl

pub plan-bytes : (bytes : ℕ) → (plan_of bytes).bytes ≡ bytes
unfolding plan_of
plan-bytes bytes = refl
