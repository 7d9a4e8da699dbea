-- Division of polynomials by one of degree 24.
use Rattle.std.proofs.Common.{◌≡◌, ℕ, ◌+◌, ◌-◌, ◌*◌, ◌^◌, ◌<◌, ◌≤◌, List, [], ◌∷◌, refl, sym, ap, ◌∙◌, arith, bit_xor}
use Rattle.std.specs.Int.Bits.{xor_self, xor_zero_l, xor_zero_r, xor_assoc}
use Rattle.std.proofs.lemmas.Nat.{xor_comm, xor_lt, xor_block}
use Rattle.lte_bits.specs.Bits.{digit}
use Rattle.lte_bits.specs.declared.bit.Bit.{Bit}
use Rattle.lte_bits.specs.declared.bit.Bit.TheVariants.{Zero, One}
use Rattle.model_sender.specs.Bits.{plus}
use Rattle.model_sender.specs.CheckBits.{times, IsMonic}

-- ---- sums
pub xor-cancel : (a b : ℕ) → bit_xor a (bit_xor a b) ≡ b
xor-cancel a b = sym (xor_assoc a a b) ∙ (ap (λ u. bit_xor u b) (xor_self a) ∙ xor_zero_l b)

xor-left_comm : (a b c : ℕ) → bit_xor a (bit_xor b c) ≡ bit_xor b (bit_xor a c)
xor-left_comm a b c = sym (xor_assoc a b c) ∙ (ap (λ u. bit_xor u c) (xor_comm a b) ∙ xor_assoc b a c)

-- (a + b) + (c + d) = (a + c) + (b + d)
xor-swap : (a b c d : ℕ) → bit_xor (bit_xor a b) (bit_xor c d) ≡ bit_xor (bit_xor a c) (bit_xor b d)
xor-swap a b c d =
    xor_assoc a b (bit_xor c d) ∙ (ap (bit_xor a) (xor-left_comm b c d) ∙ sym (xor_assoc a c (bit_xor b d)))

xor-double : (a b : ℕ) → bit_xor (2 * a) (2 * b) ≡ 2 * bit_xor a b
xor-double a b =
    let e : bit_xor (a * 2 ^ 1 + 0) (b * 2 ^ 1 + 0) ≡ bit_xor a b * 2 ^ 1 + bit_xor 0 0 = xor_block 1 a b 0 0 (omega arith) (omega arith) in
    let l : a * 2 ^ 1 + 0 ≡ 2 * a = omega arith in let r : b * 2 ^ 1 + 0 ≡ 2 * b = omega arith in
    let z : bit_xor 0 0 ≡ 0 = refl in
    ap (λ u. bit_xor u (2 * b)) (sym l) ∙ (ap (bit_xor (a * 2 ^ 1 + 0)) (sym r) ∙ (e ∙ omega (arith, z)))

digit-plus : (g : ℕ) (a b : Bit) → digit (plus a b) * g ≡ bit_xor (digit a * g) (digit b * g)
digit-plus g Zero b = sym (ap (λ u. bit_xor u (digit b * g)) (let z : 0 * g ≡ 0 = omega arith in z) ∙ xor_zero_l _)
digit-plus g One Zero = sym (ap (bit_xor (1 * g)) (let z : 0 * g ≡ 0 = omega arith in z) ∙ xor_zero_r _)
digit-plus g One One = sym (xor_self (1 * g) ∙ (let z : 0 ≡ 0 * g = omega arith in z))

abbrev sums : List Bit → List Bit → List Bit
sums [] q = q
sums (a ∷ p) [] = a ∷ p
sums (a ∷ p) (b ∷ q) = plus a b ∷ sums p q

times-sums : (g : ℕ) (p q : List Bit) → times g (sums p q) ≡ bit_xor (times g p) (times g q)
times-sums g [] q = sym (xor_zero_l _)
times-sums g (a ∷ p) [] = sym (xor_zero_r _)
times-sums g (a ∷ p) (b ∷ q) =
    ap (λ u. bit_xor (2 * u) (digit (plus a b) * g)) (times-sums g p q)
    ∙ (ap (bit_xor (2 * bit_xor (times g p) (times g q))) (digit-plus g a b)
    ∙ (ap (λ u. bit_xor u (bit_xor (digit a * g) (digit b * g))) (sym (xor-double (times g p) (times g q)))
    ∙ xor-swap (2 * times g p) (2 * times g q) (digit a * g) (digit b * g)))

-- ---- division

-- n is a multiple of g, and r
abbrev pub Leaves : ℕ → ℕ → ℕ → Type 0
Leaves g n r = (q : List Bit) × (n ≡ bit_xor (times g q) r)

-- the sum of two numbers of degree 24 has a lower one
pub falls : (a b : ℕ) → 2 ^ 24 ≤ a → a < 2 ^ 25 → 2 ^ 24 ≤ b → b < 2 ^ 25 → bit_xor a b < 2 ^ 24
falls a b la ha lb hb =
    let x : ℕ = a - 2 ^ 24 in let y : ℕ = b - 2 ^ 24 in
    let xs : x < 2 ^ 24 = omega arith in let ys : y < 2 ^ 24 = omega arith in
    let e : bit_xor (1 * 2 ^ 24 + x) (1 * 2 ^ 24 + y) ≡ bit_xor 1 1 * 2 ^ 24 + bit_xor x y = xor_block 24 1 1 x y xs ys in
    let ea : 1 * 2 ^ 24 + x ≡ a = omega arith in let eb : 1 * 2 ^ 24 + y ≡ b = omega arith in
    let z : bit_xor 1 1 ≡ 0 = refl in
    let s : bit_xor x y < 2 ^ 24 = xor_lt 24 x y xs ys in
    let f : bit_xor a b ≡ bit_xor (1 * 2 ^ 24 + x) (1 * 2 ^ 24 + y) = ap (λ u. bit_xor u b) (sym ea) ∙ ap (bit_xor (1 * 2 ^ 24 + x)) (sym eb) in
    omega (arith, f, e, z, s)

-- twice n and a bit
leaves-doubled : (g n r u : ℕ) → u < 2 → (q : List Bit) → n ≡ bit_xor (times g q) r → 2 * n + u ≡ bit_xor (2 * times g q) (2 * r + u)
leaves-doubled g n r u h q e =
    let b : bit_xor (times g q * 2 ^ 1 + 0) (r * 2 ^ 1 + u) ≡ bit_xor (times g q) r * 2 ^ 1 + bit_xor 0 u = xor_block 1 (times g q) r 0 u (omega arith) (omega arith) in
    let l : times g q * 2 ^ 1 + 0 ≡ 2 * times g q = omega arith in let k : r * 2 ^ 1 + u ≡ 2 * r + u = omega arith in
    let z : bit_xor 0 u ≡ u = xor_zero_l u in
    let c : bit_xor (2 * times g q) (2 * r + u) ≡ bit_xor (times g q * 2 ^ 1 + 0) (r * 2 ^ 1 + u) = ap (λ v. bit_xor v (2 * r + u)) (sym l) ∙ ap (bit_xor (times g q * 2 ^ 1 + 0)) (sym k) in
    omega (arith, e, b, c, z)

pub leaves-small : (g n r u : ℕ) → u < 2 → Leaves g n r → Leaves g (2 * n + u) (2 * r + u)
leaves-small g n r u h l =
    (Zero ∷ l.0, leaves-doubled g n r u h l.0 l.1 ∙ ap (λ v. bit_xor v (2 * r + u)) (sym (ap (bit_xor (2 * times g l.0)) (let z : 0 * g ≡ 0 = omega arith in z) ∙ xor_zero_r _)))

pub leaves-large : (g n r u : ℕ) → u < 2 → Leaves g n r → Leaves g (2 * n + u) (bit_xor (2 * r + u) g)
leaves-large g n r u h l =
    let one : 1 * g ≡ g = omega arith in
    let t : ℕ = 2 * r + u in let m : ℕ = 2 * times g l.0 in (
      One ∷ l.0,
      leaves-doubled g n r u h l.0 l.1
          ∙ sym (ap (λ v. bit_xor (bit_xor m v) (bit_xor t g)) one
          ∙ (xor-swap m g t g ∙ (ap (bit_xor (bit_xor m t)) (xor_self g) ∙ xor_zero_r _))),
    )

-- ---- the remainder is the only one
small_multiple : (g : ℕ) → IsMonic g → (q : List Bit) → times g q < 2 ^ 24 → times g q ≡ 0
small_multiple g mon [] h = refl
small_multiple g mon (Zero ∷ q) h =
    let z : 0 * g ≡ 0 = omega arith in
    let e : bit_xor (2 * times g q) (0 * g) ≡ 2 * times g q = ap (bit_xor (2 * times g q)) z ∙ xor_zero_r _ in
    let i : times g q ≡ 0 = small_multiple g mon q (omega (arith, e, h)) in
    omega (arith, e, i)
small_multiple g mon (One ∷ q) h =
    let m : ℕ = 2 * times g q in
    let one : 1 * g ≡ g = omega arith in
    -- m = (m + g) + g is below 2^25
    let e : m ≡ bit_xor g (bit_xor m (1 * g)) = sym (ap (λ u. bit_xor g (bit_xor m u)) one ∙ (ap (bit_xor g) (xor_comm m g) ∙ xor-cancel g m)) in
    let b : bit_xor g (bit_xor m (1 * g)) < 2 ^ 25 = xor_lt 25 g (bit_xor m (1 * g)) mon.high (omega (arith, h)) in
    let i : times g q ≡ 0 = small_multiple g mon q (omega (arith, e, b)) in
    let y : m ≡ 0 = omega (arith, i) in
    let w : bit_xor m (1 * g) ≡ g = ap (λ u. bit_xor u (1 * g)) y ∙ (xor_zero_l _ ∙ one) in
    absurd (omega (arith, h, w, mon.low))

pub leaves-only : (g n r s : ℕ) → IsMonic g → r < 2 ^ 24 → s < 2 ^ 24 → Leaves g n r → Leaves g n s → r ≡ s
leaves-only g n r s mon hr hs a b =
    let ta : ℕ = times g a.0 in let tb : ℕ = times g b.0 in
    let e : bit_xor ta r ≡ bit_xor tb s = sym a.1 ∙ b.1 in
    -- (ta + tb) + (r + s) = 0
    let z : bit_xor (bit_xor ta tb) (bit_xor r s) ≡ 0 = xor-swap ta tb r s ∙ (ap (λ u. bit_xor u (bit_xor tb s)) e ∙ xor_self (bit_xor tb s)) in
    let same : bit_xor ta tb ≡ bit_xor r s =
    sym (xor-cancel (bit_xor r s) (bit_xor ta tb)) ∙ (ap (bit_xor (bit_xor r s)) (xor_comm (bit_xor r s) (bit_xor ta tb) ∙ z) ∙ xor_zero_r _) in
    let below : bit_xor r s < 2 ^ 24 = xor_lt 24 r s hr hs in
    let t : times g (sums a.0 b.0) ≡ bit_xor r s = times-sums g a.0 b.0 ∙ same in
    let zero_sum : times g (sums a.0 b.0) ≡ 0 = small_multiple g mon (sums a.0 b.0) (omega (arith, t, below)) in
    let d : bit_xor r s ≡ 0 = sym t ∙ zero_sum in
    sym (sym (xor-cancel r s) ∙ (ap (bit_xor r) d ∙ xor_zero_r r))
