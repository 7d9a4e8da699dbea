-- What the blocks of a plan take of S.
use Rattle.std.proofs.Common.{◌≡◌, ℕ, ◌+◌, ◌-◌, ◌*◌, ◌<◌, ◌≤◌, nat_lt, Bool, true, false, cond, List, length, refl, sym, ap, ◌∙◌, subst, inl, inr, arith}
use Rattle.std.specs.List.{range_with_len, sum_by}
use Rattle.std.proofs.lemmas.Bool.{cases_lt, lt-ltb, le-ltb, ltb-true}
use Rattle.std.proofs.lemmas.Grind.{common_steps}
use Rattle.lte_bits.specs.Packing.{unpacked}
use Rattle.lte_bits.proofs.Unpacking.{length-unpacked}
use Rattle.model_sender.specs.CheckBits.{crc24a}
use Rattle.model_sender.specs.Segmentation.{Plan, bits_of, check_length, carried, plan_of, size}
use Rattle.model_sender.specs.CodeBlocks.{before, share, sequence}
use Rattle.model_sender.proofs.CheckBitLaws.{length-crc}
use Rattle.model_sender.proofs.RangeSums.{sum_by-range_more, sum_by-two_values, same_sums}
use Rattle.model_sender.proofs.PlanLaws.{IsSound, plan-sound, plan-count}

-- the check bits of one block are none, and those of each of several are 24
pub check_length-alone : (c : ℕ) → c ≤ 1 → check_length c ≡ 0
check_length-alone c h = ap (λ (t : Bool). cond t 24 0) (le-ltb 1 c h)

pub check_length-several : (c : ℕ) → 1 < c → check_length c ≡ 24
check_length-several c h = ap (λ (t : Bool). cond t 24 0) (lt-ltb 1 c h)

pub size-smaller : (p : Plan) (r : ℕ) → r < p.c_minus → size p r ≡ p.k_minus
size-smaller p r h = ap (λ (t : Bool). cond t p.k_minus p.k_plus) (lt-ltb r p.c_minus h)

pub size-larger : (p : Plan) (r : ℕ) → p.c_minus ≤ r → size p r ≡ p.k_plus
size-larger p r h = ap (λ (t : Bool). cond t p.k_minus p.k_plus) (le-ltb r p.c_minus h)

-- each block has room for its check bits, and the first for the fillers too
pub size-room : (n : ℕ) (p : Plan) (r : ℕ) → IsSound n p → check_length p.c ≤ size p r
size-room n p r sound =
    elim (cases_lt 1 p.c) [
      | inr one ↦ omega (arith, check_length-alone p.c one)
      | inl two ↦
          let several = sound.several two in
          let below : p.k_minus < p.k_plus = ltb-true p.k_minus p.k_plus several.smaller.pass in
          let own = check_length-several p.c two in
          elim (cases_lt r p.c_minus) [ inl h ↦ omega (arith, size-smaller p r h, several.large, own) | inr h ↦ omega (arith, size-larger p r h, several.large, below, own) ]
    ]

pub fillers-room : (n : ℕ) (p : Plan) → IsSound n p → p.f + check_length p.c < size p 0
fillers-room n p sound =
    elim (cases_lt 1 p.c) [
      | inr one ↦
          let alone = sound.alone (omega (arith, one, sound.some)) in
          omega (arith, check_length-alone p.c one, alone.fillers, size-larger p 0 (omega (arith, alone.none)))
      | inl two ↦
          let several = sound.several two in
          let below : p.k_minus < p.k_plus = ltb-true p.k_minus p.k_plus several.smaller.pass in
          let own = check_length-several p.c two in
          elim (cases_lt 0 p.c_minus) [
            | inl h ↦ omega (arith, size-smaller p 0 h, several.large, several.fillers, own)
            | inr h ↦ omega (arith, size-larger p 0 h, several.large, several.fillers, below, own)
          ]
    ]

pub fillers-below : (bytes : ℕ) → 1 ≤ bytes → bytes ≤ 18722 → (plan_of bytes).f < share (plan_of bytes) 0
fillers-below bytes some few = omega (arith, fillers-room (carried (bits_of bytes)) (plan_of bytes) (plan-sound bytes some few))

-- one more share
pub before-more : (p : Plan) (r : ℕ) → before p (r + 1) ≡ before p r + share p r
before-more p r = sum_by-range_more (share p) r

-- the shares of the smaller blocks and of the larger ones
before-counts : (p : Plan) → p.c_plus + p.c_minus ≡ p.c → before p p.c ≡ p.c_minus * (p.k_minus - check_length p.c) + p.c_plus * (p.k_plus - check_length p.c)
before-counts p counts =
    ap (λ (n : ℕ). before p n) (let e : p.c ≡ p.c_minus + p.c_plus = omega (arith, counts) in e)
    ∙ same_terms (p.c_minus + p.c_plus)
    ∙ sum_by-two_values (λ r. nat_lt r p.c_minus) p.c_minus p.c_plus (p.k_minus - check_length p.c) (p.k_plus - check_length p.c) (λ r h. lt-ltb r p.c_minus h) (λ r h. le-ltb r p.c_minus h)
  where
    term : (r : ℕ) → share p r ≡ cond (nat_lt r p.c_minus) (p.k_minus - check_length p.c) (p.k_plus - check_length p.c)
    term r = by_test (nat_lt r p.c_minus)
      where
        by_test : (t : Bool) → cond t p.k_minus p.k_plus - check_length p.c ≡ cond t (p.k_minus - check_length p.c) (p.k_plus - check_length p.c)
        by_test true = refl
        by_test false = refl

    same_terms : (n : ℕ) → before p n ≡ sum_by (λ r. cond (nat_lt r p.c_minus) (p.k_minus - check_length p.c) (p.k_plus - check_length p.c)) (range_with_len 0 n)
    same_terms n = same_sums (share p) (λ r. cond (nat_lt r p.c_minus) (p.k_minus - check_length p.c) (p.k_plus - check_length p.c)) term (range_with_len 0 n)

-- all shares are the bits and the fillers
pub before-whole : (b : ℕ) (p : Plan) → IsSound (b + p.c * check_length p.c) p → before p p.c ≡ b + p.f
before-whole b p sound =
    elim (cases_lt 1 p.c) [
      | inr one ↦
          let alone = sound.alone (omega (arith, one, sound.some)) in
          let own : check_length p.c ≡ 0 = check_length-alone p.c one in
          let none : p.c * check_length p.c ≡ 0 = ap (λ (l : ℕ). p.c * l) own ∙ (let e : p.c * 0 ≡ 0 = omega arith in e) in
          let second : p.c_plus * (p.k_plus - check_length p.c) ≡ p.c_plus * p.k_plus = ap (λ (k : ℕ). p.c_plus * k) (let e : p.k_plus - check_length p.c ≡ p.k_plus = omega (arith, own) in e) in
          let first : p.c_minus * (p.k_minus - check_length p.c) ≡ p.c_minus * p.k_minus = ap (λ (k : ℕ). p.c_minus * k) (let e : p.k_minus - check_length p.c ≡ p.k_minus = omega (arith, own) in e) in
          omega (arith, before-counts p sound.counts, first, second, none, sound.filled)
      | inl two ↦
          let several = sound.several two in
          let own : check_length p.c ≡ 24 = check_length-several p.c two in
          let below : p.k_minus < p.k_plus = ltb-true p.k_minus p.k_plus several.smaller.pass in
          let total : p.c * check_length p.c ≡ 24 * p.c = ap (λ (l : ℕ). p.c * l) own ∙ (let e : p.c * 24 ≡ 24 * p.c = omega arith in e) in
          let first : p.c_minus * (p.k_minus - check_length p.c) + 24 * p.c_minus ≡ p.c_minus * p.k_minus = taken p.c_minus p.k_minus (check_length p.c) own (omega (arith, several.large)) in
          let second : p.c_plus * (p.k_plus - check_length p.c) + 24 * p.c_plus ≡ p.c_plus * p.k_plus = taken p.c_plus p.k_plus (check_length p.c) own (omega (arith, several.large, below)) in
          omega (arith, before-counts p sound.counts, first, second, total, sound.filled, sound.counts)
    ]
  where
    taken : (c k l : ℕ) → l ≡ 24 → 24 ≤ k → c * (k - l) + 24 * c ≡ c * k
    taken c k l own room =
        let j : ℕ = k - l in
        let sum : c * k ≡ c * (j + 24) = ap (λ (m : ℕ). c * m) (let e : k ≡ j + 24 = omega (arith, own, room) in e) in
        let spread : c * (j + 24) ≡ c * j + 24 * c = omega arith in
        omega (arith, sum, spread)

-- S has the fillers, the payload's bits and 24 check bits
pub length-sequence : (p : Plan) (payload : List ℕ) → length (sequence p payload) ≡ p.f + (8 * length payload + 24)
length-sequence p payload = grind (arith, common_steps, length-crc crc24a (unpacked payload), length-unpacked payload)

pub before-all : (payload : List ℕ) → 1 ≤ length payload → length payload ≤ 18722
    → before (plan_of (length payload)) (plan_of (length payload)).c ≡ length (sequence (plan_of (length payload)) payload)
before-all payload some few =
    let bytes : ℕ = length payload in
    let p : Plan = plan_of bytes in
    let sound : IsSound (bits_of bytes + p.c * check_length p.c) p = subst (λ (c : ℕ). IsSound (bits_of bytes + c * check_length c) p) (sym (plan-count bytes)) (plan-sound bytes some few) in
    omega (arith, before-whole (bits_of bytes) p sound, length-sequence p payload)
