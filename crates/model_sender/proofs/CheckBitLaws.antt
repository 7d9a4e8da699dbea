-- The function `crc` gives the check bits, and a multiple is what leaves nothing.
use Rattle.std.proofs.Common.{◌≡◌, ℕ, zero, suc, ◌+◌, ◌*◌, ◌^◌, ◌<◌, Bool, true, false, List, [], ◌∷◌, ◌++◌, length, refl, sym, ap, ◌∙◌, subst, arith, bit_xor, cond, nat_lt}
use Rattle.std.specs.Prelude.{◌↔◌, replicate}
use Rattle.std.specs.Int.Bits.{xor_self, xor_zero_r, xor_assoc, xor_shifted}
use Rattle.std.proofs.lemmas.Bool.{ltb-true, ltb-false}
use Rattle.std.proofs.lemmas.Nat.{xor_comm}
use Rattle.lte_bits.specs.Bits.{digit, number}
use Rattle.lte_bits.specs.declared.bit.Bit.{Bit}
use Rattle.lte_bits.specs.declared.bit.Bit.TheVariants.{Zero}
use Rattle.model_sender.specs.CheckBits.{times, IsMultiple, IsCrc, IsMonic, crc24a, crc24b, reduced, remainder, digits, crc}
use Rattle.model_sender.proofs.BitNumbers.{digit-lt, number-append, number-lt, same_number, number_after, number_after-is, length-digits, number-digits}
use Rattle.model_sender.proofs.Division.{Leaves, xor-cancel, falls, leaves-small, leaves-large, leaves-only}

pub crc24a-monic : IsMonic crc24a
crc24a-monic = record { low = omega arith; high = omega arith }

pub crc24b-monic : IsMonic crc24b
crc24b-monic = record { low = omega arith; high = omega arith }

-- ---- the division, bit by bit

-- r is the remainder of n
record IsLeft (g n r : ℕ) : Type 0 where
  small : r < 2 ^ 24
  leaves : Leaves g n r

pub reduced-small : (g t : ℕ) → IsMonic g → t < 2 ^ 25 → reduced g t < 2 ^ 24
reduced-small g t monic h = by_size (nat_lt t (2 ^ 24)) refl
  where
    by_size : (b : Bool) → nat_lt t (2 ^ 24) ≡ b → cond b t (bit_xor t g) < 2 ^ 24
    by_size true e = ltb-true t (2 ^ 24) e
    by_size false e = falls t g (ltb-false t (2 ^ 24) e) h monic.low monic.high

left_more : (g n r : ℕ) (b : Bit) → IsMonic g → IsLeft g n r → IsLeft g (2 * n + digit b) (reduced g (2 * r + digit b))
left_more g n r b monic left = record {
  small = reduced-small g (2 * r + digit b) monic (omega (arith, digit-lt b, left.small));
  leaves = by_size (nat_lt (2 * r + digit b) (2 ^ 24));
}
  where
    by_size : (t : Bool) → Leaves g (2 * n + digit b) (cond t (2 * r + digit b) (bit_xor (2 * r + digit b) g))
    by_size true = leaves-small g n r (digit b) (digit-lt b) left.leaves
    by_size false = leaves-large g n r (digit b) (digit-lt b) left.leaves

left_all : (g n r : ℕ) (bs : List Bit) → IsMonic g → IsLeft g n r → IsLeft g (number_after n bs) (remainder g r bs)
left_all g n r [] monic left = left
left_all g n r (b ∷ bs) monic left = left_all g (2 * n + digit b) (reduced g (2 * r + digit b)) bs monic (left_more g n r b monic left)

left_bits : (g : ℕ) (bs : List Bit) → IsMonic g → IsLeft g (number bs) (remainder g 0 bs)
left_bits g bs monic =
    let none : IsLeft g 0 0 = record { small = omega arith; leaves = ([], refl) } in
    let e : number_after 0 bs ≡ number bs = number_after-is 0 bs ∙ (let z : 0 * 2 ^ length bs + number bs ≡ number bs = omega arith in z) in
    subst (λ (n : ℕ). IsLeft g n (remainder g 0 bs)) e (left_all g 0 0 bs monic none)

-- ---- multiples

pub multiple-remainder : (g : ℕ) (bs : List Bit) → IsMonic g → IsMultiple g bs ↔ (remainder g 0 bs ≡ 0)
multiple-remainder g bs monic = let left = left_bits g bs monic in (
  λ m. leaves-only g (number bs) (remainder g 0 bs) 0 monic left.small (omega arith) left.leaves (m.0, m.1 ∙ sym (xor_zero_r _)),
  λ z. let l : Leaves g (number bs) 0 = subst (λ (r : ℕ). Leaves g (number bs) r) z left.leaves in (l.0, l.1 ∙ xor_zero_r _),
)

number-zeros : (n : ℕ) → number (replicate n Zero) ≡ 0
number-zeros zero = refl
number-zeros (suc n) = omega (arith, number-zeros n)

pub multiple-zeros : (g n : ℕ) → IsMultiple g (replicate n Zero)
multiple-zeros g n = ([], number-zeros n)

-- bits followed by p have the number of the bits shifted, and p
number-followed : (bs p : List Bit) → length p ≡ 24 → number (bs ++ p) ≡ bit_xor (number bs * 2 ^ 24) (number p)
number-followed bs p l =
    let small : number p < 2 ^ 24 = omega (arith, number-lt p, ap (λ n. 2 ^ n) l) in
    number-append bs p ∙ (ap (λ n. number bs * 2 ^ n + number p) l ∙ sym (xor_shifted (number bs) 24 (number p) small))

-- so they are a multiple exactly where the bits shifted leave p
shifted_leaves : (g : ℕ) (bs p : List Bit) → length p ≡ 24 → IsMultiple g (bs ++ p) → Leaves g (number bs * 2 ^ 24) (number p)
shifted_leaves g bs p l m =
    let s : ℕ = number bs * 2 ^ 24 in
    let t : times g m.0 ≡ bit_xor s (number p) = sym m.1 ∙ number-followed bs p l in
    (m.0, sym (xor-cancel (number p) s) ∙ (ap (bit_xor (number p)) (xor_comm (number p) s ∙ sym t) ∙ xor_comm (number p) (times g m.0)))

multiple_from : (g : ℕ) (bs p : List Bit) → length p ≡ 24 → Leaves g (number bs * 2 ^ 24) (number p) → IsMultiple g (bs ++ p)
multiple_from g bs p l m = (
  m.0,
  number-followed bs p l
      ∙ (ap (λ u. bit_xor u (number p)) m.1
      ∙ (xor_assoc (times g m.0) (number p) (number p) ∙ (ap (bit_xor (times g m.0)) (xor_self (number p)) ∙ xor_zero_r _))),
)

-- ---- the check bits

-- 24 bits that are the remainder of the bits shifted are the check bits
crc_from : (g : ℕ) (bs p : List Bit) → IsMonic g → length p ≡ 24 → Leaves g (number bs * 2 ^ 24) (number p) → IsCrc g bs p
crc_from g bs p monic l m = record {
  width = l;
  multiple = multiple_from g bs p l m;
  only = λ o k h. same_number o p (k ∙ sym l) (leaves-only g (number bs * 2 ^ 24) (number o) (number p) monic (below o k) (below p l) (shifted_leaves g bs o k h) m);
}
  where
    below : (o : List Bit) → length o ≡ 24 → number o < 2 ^ 24
    below o k = omega (arith, number-lt o, ap (λ n. 2 ^ n) k)

pub length-crc : (g : ℕ) (bs : List Bit) → length (crc g bs) ≡ 24
unfolding crc
length-crc g bs = length-digits 24 (remainder g (remainder g 0 bs) (replicate 24 Zero))

pub crc-is : (g : ℕ) (bs : List Bit) → IsMonic g → IsCrc g bs (crc g bs)
unfolding crc
crc-is g bs monic =
    let zeros : List Bit = replicate 24 Zero in
    let r : ℕ = remainder g (remainder g 0 bs) zeros in
    let left : IsLeft g (number_after (number bs) zeros) r = left_all g (number bs) (remainder g 0 bs) zeros monic (left_bits g bs monic) in
    let e : number_after (number bs) zeros ≡ number bs * 2 ^ 24 = number_after-is (number bs) zeros ∙ (let z : number bs * 2 ^ 24 + 0 ≡ number bs * 2 ^ 24 = omega arith in z) in
    let l : Leaves g (number bs * 2 ^ 24) r = subst (λ (m : ℕ). Leaves g m r) e left.leaves in
    let d : r ≡ number (digits 24 r) = sym (number-digits 24 r left.small) in
    crc_from g bs (digits 24 r) monic (length-digits 24 r) (subst (λ (m : ℕ). Leaves g (number bs * 2 ^ 24) m) d l)

-- 24 bits whose number is the remainder of the bits and 24 zeros are the check bits
pub crc_by_number : (g : ℕ) (bs p : List Bit) → IsMonic g → length p ≡ 24 → number p ≡ remainder g (remainder g 0 bs) (replicate 24 Zero) → p ≡ crc g bs
unfolding crc
crc_by_number g bs p monic l e =
    let r : ℕ = remainder g (remainder g 0 bs) (replicate 24 Zero) in
    let small : r < 2 ^ 24 = omega (arith, number-lt p, ap (λ n. 2 ^ n) l, e) in
    same_number p (digits 24 r) (l ∙ sym (length-digits 24 r)) (e ∙ sym (number-digits 24 r small))
