-- The number of a list of bits.
use Rattle.std.proofs.Common.{◌≡◌, ℕ, zero, suc, ◌+◌, ◌*◌, ◌/◌, ◌%◌, ◌^◌, ◌<◌, List, [], ◌∷◌, ◌++◌, length, refl, ap, ◌∙◌, arith, length-append}
use Rattle.std.proofs.lemmas.Nat.{pow-add, pow_pos, div_below, mod_below, div-add-mod'}
use Rattle.std.proofs.Math.Nat.{pow-suc}
use Rattle.lte_bits.specs.Bits.{digit, number, bit_of}
use Rattle.lte_bits.specs.declared.bit.Bit.{Bit}
use Rattle.lte_bits.specs.declared.bit.Bit.TheVariants.{Zero, One}
use Rattle.model_sender.specs.CheckBits.{digits}

pub digit-lt : (b : Bit) → digit b < 2
digit-lt Zero = omega arith
digit-lt One = omega arith

pub digit-bit_of : (n : ℕ) → n < 2 → digit (bit_of n) ≡ n
digit-bit_of zero h = refl
digit-bit_of (suc n) h = omega (arith, h)

pub number-append : (xs ys : List Bit) → number (xs ++ ys) ≡ number xs * 2 ^ length ys + number ys
number-append [] ys = omega arith
number-append (x ∷ xs) ys =
    let e : 2 ^ length (xs ++ ys) ≡ 2 ^ length xs * 2 ^ length ys = ap (λ n. 2 ^ n) (length-append xs ys) ∙ pow-add 2 (length xs) (length ys) in
    let i : number (xs ++ ys) ≡ number xs * 2 ^ length ys + number ys = number-append xs ys in
    ap (λ n. digit x * n + number (xs ++ ys)) e ∙ omega (arith, i)

pub number-lt : (bs : List Bit) → number bs < 2 ^ length bs
number-lt [] = omega arith
number-lt (b ∷ bs) = top b (number-lt bs) (pow-suc 2 (length bs))
  where
    top : (b : Bit) → number bs < 2 ^ length bs → 2 ^ suc (length bs) ≡ 2 ^ length bs * 2 → digit b * 2 ^ length bs + number bs < 2 ^ suc (length bs)
    top Zero i e = omega (arith, i, e)
    top One i e = omega (arith, i, e)

-- two lists of one length with one number are one
pub same_number : (xs ys : List Bit) → length xs ≡ length ys → number xs ≡ number ys → xs ≡ ys
same_number [] [] l e = refl
same_number [] (y ∷ ys) l e = absurd (omega (arith, l))
same_number (x ∷ xs) [] l e = absurd (omega (arith, l))
same_number (Zero ∷ xs) (Zero ∷ ys) l e = ap (λ u. Zero ∷ u) (same_number xs ys (omega (arith, l)) (omega (arith, e)))
same_number (One ∷ xs) (One ∷ ys) l e =
    let k : length xs ≡ length ys = omega (arith, l) in
    ap (λ u. One ∷ u) (same_number xs ys k (omega (arith, e, ap (λ n. 2 ^ n) k)))
same_number (Zero ∷ xs) (One ∷ ys) l e =
    let k : length xs ≡ length ys = omega (arith, l) in absurd (omega (arith, e, number-lt xs, ap (λ n. 2 ^ n) k))
same_number (One ∷ xs) (Zero ∷ ys) l e =
    let k : length xs ≡ length ys = omega (arith, l) in absurd (omega (arith, e, number-lt ys, ap (λ n. 2 ^ n) k))

-- the number whose digits are those of n and then the bits
abbrev pub number_after : ℕ → List Bit → ℕ
number_after n [] = n
number_after n (b ∷ bs) = number_after (2 * n + digit b) bs

pub number_after-is : (n : ℕ) (bs : List Bit) → number_after n bs ≡ n * 2 ^ length bs + number bs
number_after-is n [] = omega arith
number_after-is n (b ∷ bs) =
    let i : number_after (2 * n + digit b) bs ≡ (2 * n + digit b) * 2 ^ length bs + number bs = number_after-is (2 * n + digit b) bs in
    let e : 2 ^ suc (length bs) ≡ 2 ^ length bs * 2 = pow-suc 2 (length bs) in
    i ∙ omega (arith, ap (λ u. n * u) e)

-- ---- the digits of a number

pub length-digits : (n r : ℕ) → length (digits n r) ≡ n
length-digits zero r = refl
length-digits (suc n) r = omega (arith, length-digits n (r % 2 ^ n))

pub number-digits : (n r : ℕ) → r < 2 ^ n → number (digits n r) ≡ r
number-digits zero r h = omega (arith, h)
number-digits (suc n) r h =
    let p : 2 ^ suc n ≡ 2 ^ n * 2 = pow-suc 2 n in
    let q : r / 2 ^ n < 2 = div_below r (2 ^ n) 2 (pow_pos n) (omega (arith, h, p)) in
    let i : number (digits n (r % 2 ^ n)) ≡ r % 2 ^ n = number-digits n (r % 2 ^ n) (mod_below r (2 ^ n) (pow_pos n)) in
    let l : 2 ^ length (digits n (r % 2 ^ n)) ≡ 2 ^ n = ap (λ k. 2 ^ k) (length-digits n (r % 2 ^ n)) in
    let d : digit (bit_of (r / 2 ^ n)) ≡ r / 2 ^ n = digit-bit_of (r / 2 ^ n) q in
    ap (λ z. digit (bit_of (r / 2 ^ n)) * z + number (digits n (r % 2 ^ n))) l
    ∙ (ap (λ z. z * 2 ^ n + number (digits n (r % 2 ^ n))) d ∙ (ap (λ z. r / 2 ^ n * 2 ^ n + z) i ∙ div-add-mod' r (2 ^ n)))
