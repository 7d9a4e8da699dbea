-- Remainders of sums, by which eight bits are divided at once.
use Rattle.std.proofs.Common.{◌≡◌, ℕ, zero, suc, ◌+◌, ◌*◌, ◌/◌, ◌%◌, ◌^◌, ◌<◌, ◌≤◌, Bool, List, [], ◌∷◌, ◌++◌, length, refl, sym, ap, ◌∙◌, inl, inr, arith, bit_xor, cond, eqb, get_or}
use Rattle.std.specs.Prelude.{replicate, IsTrue}
use Rattle.std.specs.Int.Bits.{xor_zero_l, xor_assoc, xor_shifted}
use Rattle.std.proofs.lemmas.Bool.{lt-ltb, le-ltb, cases_lt, eqb-true, and_parts}
use Rattle.std.proofs.lemmas.Nat.{xor_comm, xor_lt, xor_block, pow_pos}
use Rattle.std.proofs.lemmas.List.{length-append}
use Rattle.std.proofs.Math.Nat.{pow-suc, mul-le-mul_left}
use Rattle.lte_bits.specs.Bits.{digit, number}
use Rattle.lte_bits.specs.declared.bit.Bit.{Bit}
use Rattle.lte_bits.specs.declared.bit.Bit.TheVariants.{Zero}
use Rattle.model_sender.specs.CheckBits.{IsMonic, reduced, remainder}
use Rattle.model_sender.proofs.BitNumbers.{digit-lt}
use Rattle.model_sender.proofs.Division.{xor-cancel, falls}
use Rattle.model_sender.proofs.CheckBitLaws.{reduced-small}
use Rattle.block_crc.proofs.Chunks.{remainder-append}
use Rattle.block_crc.specs.Table.{top_remainder, is_table_from, is_table}

-- a polynomial of degree 24 keeps that degree when a lower one is added
stays : (a b : ℕ) → a < 2 ^ 24 → 2 ^ 24 ≤ b → 2 ^ 24 ≤ bit_xor a b
stays a b low high = elim (cases_lt (bit_xor a b) (2 ^ 24)) [
  | inl less ↦ absurd (let below : bit_xor a (bit_xor a b) < 2 ^ 24 = xor_lt 24 a (bit_xor a b) low less in omega (arith, below, xor-cancel a b, high))
  | inr most ↦ most
]

xor-tail : (a b c : ℕ) → bit_xor (bit_xor a b) c ≡ bit_xor (bit_xor a c) b
xor-tail a b c = xor_assoc a b c ∙ (ap (bit_xor a) (xor_comm b c) ∙ sym (xor_assoc a c b))

xor-both : (a b g : ℕ) → bit_xor (bit_xor a g) (bit_xor b g) ≡ bit_xor a b
xor-both a b g =
    xor_assoc a g (bit_xor b g)
    ∙ ap (bit_xor a) (ap (bit_xor g) (xor_comm b g) ∙ xor-cancel g b)

small : (g t : ℕ) → t < 2 ^ 24 → reduced g t ≡ t
small g t h = ap (λ (b : Bool). cond b t (bit_xor t g)) (lt-ltb t (2 ^ 24) h)

large : (g t : ℕ) → 2 ^ 24 ≤ t → reduced g t ≡ bit_xor t g
large g t h = ap (λ (b : Bool). cond b t (bit_xor t g)) (le-ltb t (2 ^ 24) h)

-- a sum of two, modulo g
reduced-sum : (g a b : ℕ) → IsMonic g → a < 2 ^ 25 → b < 2 ^ 25 → reduced g (bit_xor a b) ≡ bit_xor (reduced g a) (reduced g b)
reduced-sum g a b monic ha hb = elim (cases_lt a (2 ^ 24)) [
  | inl al ↦ elim (cases_lt b (2 ^ 24)) [
    | inl bl ↦ small g (bit_xor a b) (xor_lt 24 a b al bl) ∙ sym (ap (λ u. bit_xor u (reduced g b)) (small g a al) ∙ ap (bit_xor a) (small g b bl))
    | inr bh ↦
        large g (bit_xor a b) (stays a b al bh)
        ∙ (xor_assoc a b g ∙ sym (ap (λ u. bit_xor u (reduced g b)) (small g a al) ∙ ap (bit_xor a) (large g b bh)))
  ]
  | inr ah ↦ elim (cases_lt b (2 ^ 24)) [
    | inl bl ↦
        large g (bit_xor a b) (let h : 2 ^ 24 ≤ bit_xor b a = stays b a bl ah in omega (arith, h, xor_comm a b))
        ∙ (xor-tail a b g ∙ sym (ap (λ u. bit_xor u (reduced g b)) (large g a ah) ∙ ap (bit_xor (bit_xor a g)) (small g b bl)))
    | inr bh ↦
        small g (bit_xor a b) (falls a b ah ha bh hb)
        ∙ sym (ap (λ u. bit_xor u (reduced g b)) (large g a ah) ∙ (ap (bit_xor (bit_xor a g)) (large g b bh) ∙ xor-both a b g))
  ]
]

-- twice a sum, and a bit
twice-sum : (a b u : ℕ) → u < 2 → 2 * bit_xor a b + u ≡ bit_xor (2 * a + 0) (2 * b + u)
twice-sum a b u h =
    let e : bit_xor (a * 2 ^ 1 + 0) (b * 2 ^ 1 + u) ≡ bit_xor a b * 2 ^ 1 + bit_xor 0 u = xor_block 1 a b 0 u (omega arith) (omega arith) in
    let l : a * 2 ^ 1 + 0 ≡ 2 * a + 0 = omega arith in let r : b * 2 ^ 1 + u ≡ 2 * b + u = omega arith in
    let z : bit_xor 0 u ≡ u = xor_zero_l u in
    let f : bit_xor (2 * a + 0) (2 * b + u) ≡ bit_xor (a * 2 ^ 1 + 0) (b * 2 ^ 1 + u) = ap (λ v. bit_xor v (2 * b + u)) (sym l) ∙ ap (bit_xor (a * 2 ^ 1 + 0)) (sym r) in
    omega (arith, e, f, z)

-- a sum followed by bits: one part is followed by zeros
pub remainder-sum : (g a b : ℕ) (bits : List Bit) → IsMonic g → a < 2 ^ 24 → b < 2 ^ 24
    → remainder g (bit_xor a b) bits ≡ bit_xor (remainder g a (replicate (length bits) Zero)) (remainder g b bits)
remainder-sum g a b [] monic ha hb = refl
remainder-sum g a b (d ∷ bits) monic ha hb =
    let s : ℕ = 2 * a + 0 in let t : ℕ = 2 * b + digit d in
    let hs : s < 2 ^ 25 = omega arith in let ht : t < 2 ^ 25 = omega (arith, digit-lt d) in
    ap (λ r. remainder g (reduced g r) bits) (twice-sum a b (digit d) (digit-lt d))
    ∙ ap (λ r. remainder g r bits) (reduced-sum g s t monic hs ht)
    ∙ remainder-sum g (reduced g s) (reduced g t) bits monic (reduced-small g s monic hs) (reduced-small g t monic ht)

-- what stays below the degree is its own remainder
pub remainder-low : (g r : ℕ) (bits : List Bit) → r * 2 ^ length bits + number bits < 2 ^ 24 → remainder g r bits ≡ r * 2 ^ length bits + number bits
remainder-low g r [] low = omega arith
remainder-low g r (d ∷ bits) low =
    let p : 2 ^ suc (length bits) ≡ 2 ^ length bits * 2 = pow-suc 2 (length bits) in
    let t : ℕ = 2 * r + digit d in
    let e : t * 2 ^ length bits + number bits ≡ r * 2 ^ suc (length bits) + (digit d * 2 ^ length bits + number bits) = omega (arith, ap (λ u. r * u) p) in
    let most : t * 1 ≤ t * 2 ^ length bits = mul-le-mul_left t (pow_pos (length bits)) in
    ap (λ u. remainder g u bits) (small g t (omega (arith, low, e, most)))
    ∙ (remainder-low g t bits (omega (arith, low, e)) ∙ e)

-- ---- the tables

entry-from : (g n t i : ℕ) (rs : List ℕ) → IsTrue (is_table_from g n t rs) → t + i < 256 → get_or rs i 0 ≡ top_remainder g n (t + i)
entry-from g n t i [] is below = absurd (omega (arith, eqb-true t 256 is, below))
entry-from g n t zero (r ∷ rs) is below =
    eqb-true r (top_remainder g n t) (and_parts (eqb r (top_remainder g n t)) (is_table_from g n (suc t) rs) is).0
    ∙ ap (top_remainder g n) (let e : t ≡ t + 0 = omega arith in e)
entry-from g n t (suc i) (r ∷ rs) is below =
    entry-from g n (suc t) i rs (and_parts (eqb r (top_remainder g n t)) (is_table_from g n (suc t) rs) is).1 (omega (arith, below))
    ∙ ap (top_remainder g n) (let e : suc t + i ≡ t + suc i = omega arith in e)

entry : (g n i : ℕ) (rs : List ℕ) → IsTrue (is_table g n rs) → i < 256 → get_or rs i 0 ≡ top_remainder g n i
entry g n i rs is below = entry-from g n 0 i rs is (omega (arith, below)) ∙ ap (top_remainder g n) (let e : 0 + i ≡ i = omega arith in e)

-- a byte and what follows it, after a remainder: the table has what the remainder's highest eight digits leave
pub byte-by_table : (g r m k : ℕ) (rs : List ℕ) (byte rest : List Bit) → IsMonic g → IsTrue (is_table g k rs) → r < 2 ^ 24 → length byte ≡ 8
    → k ≡ 8 + length rest → number byte < 256 → m ≡ r % 2 ^ 16 * 256 + number byte
    → bit_xor (get_or rs (r / 65536) 0) (remainder g m rest) ≡ remainder g r (byte ++ rest)
byte-by_table g r m k rs byte rest monic is h long all few made =
    let top : ℕ = r / 2 ^ 16 * 2 ^ 16 in let low : ℕ = r % 2 ^ 16 in
    let lows : low < 2 ^ 16 = omega arith in
    let parts : bit_xor top low ≡ r = xor_shifted (r / 2 ^ 16) 16 low lows ∙ omega arith in
    let w : 2 ^ length byte ≡ 256 = ap (λ n. 2 ^ n) long in
    let e : low * 2 ^ length byte + number byte ≡ low * 256 + number byte = ap (λ u. low * u + number byte) w in
    let after : remainder g low byte ≡ m = remainder-low g low byte (omega (arith, e, lows, few)) ∙ (e ∙ sym made) in
    let count : length (byte ++ rest) ≡ k = length-append byte rest ∙ omega (arith, long, all) in
    ap (λ u. bit_xor u (remainder g m rest)) (entry g k (r / 65536) rs is (omega (arith, h)))
    ∙ sym (ap (λ u. remainder g u (byte ++ rest)) (sym parts)
    ∙ remainder-sum g top low (byte ++ rest) monic (omega arith) (omega arith)
    ∙ ap (λ n. bit_xor (remainder g top (replicate n Zero)) (remainder g low (byte ++ rest))) count
    ∙ ap (bit_xor (remainder g top (replicate k Zero))) (remainder-append g byte rest low ∙ ap (λ u. remainder g u rest) after))

pub remainder-small : (g r : ℕ) (bits : List Bit) → IsMonic g → r < 2 ^ 24 → remainder g r bits < 2 ^ 24
remainder-small g r [] monic h = h
remainder-small g r (d ∷ bits) monic h = remainder-small g (reduced g (2 * r + digit d)) bits monic (reduced-small g (2 * r + digit d) monic (omega (arith, h, digit-lt d)))
