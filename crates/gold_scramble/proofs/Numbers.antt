-- The number of bits, and the bits of a number.
use Rattle.std.proofs.Common.{◌≡◌, ℕ, zero, suc, ◌+◌, ◌*◌, ◌/◌, ◌%◌, ◌^◌, ◌<◌, ◌≤◌, List, [], ◌∷◌, ◌++◌, length, refl, ap, sym, ◌∙◌, arith, length-append}
use Rattle.std.specs.Prelude.{bit_or}
use Rattle.std.specs.Int.{bit_at}
use Rattle.std.proofs.lemmas.Nat.{mod_low, mod-pow-add, or_shifted, pow-add, shl_whole}
use Rattle.std.proofs.lemmas.Nat.Bits.{bit_at-lt}
use Rattle.std.proofs.Math.Nat.{pow-suc}
use Rattle.lte_bits.specs.Bits.{bit_of, digit, number}
use Rattle.lte_bits.specs.declared.bit.Bit.{Bit}
use Rattle.lte_bits.specs.declared.bit.Bit.TheVariants.{Zero, One}
use Rattle.gold_scramble.specs.Places.{binary_digit, highest_first}
use Rattle.gold_scramble.proofs.Digits.{digit_above, digit_below}
use Rattle.gold_scramble.proofs.PlaceLists.{length-highest_first}

digit-bit_of : (n : ℕ) → n < 2 → digit (bit_of n) ≡ n
digit-bit_of zero h = refl
digit-bit_of (suc zero) h = refl
digit-bit_of (suc (suc n)) h = absurd (omega arith)

pub number-append : (xs ys : List Bit) → number (xs ++ ys) ≡ number xs * 2 ^ length ys + number ys
number-append [] ys = omega arith
number-append (x ∷ xs) ys =
    let e : 2 ^ length (xs ++ ys) ≡ 2 ^ length xs * 2 ^ length ys = ap (λ (n : ℕ). 2 ^ n) (length-append xs ys) ∙ pow-add 2 (length xs) (length ys) in
    let i : number (xs ++ ys) ≡ number xs * 2 ^ length ys + number ys = number-append xs ys in
    ap (λ (n : ℕ). digit x * n + number (xs ++ ys)) e ∙ omega arith

-- a bit by itself
pub bit_of-number : (b : Bit) → bit_of (number (b ∷ [])) ≡ b
bit_of-number Zero = refl
bit_of-number One = refl

pub one_from_number : (b : Bit) (n : ℕ) → n ≡ number (b ∷ []) → 0 < n → One ≡ b
one_from_number Zero n e h = absurd (omega arith)
one_from_number One n e h = refl

-- two numbers of 16 bits, as one of 32
pub halves_joined : (high low : ℕ) → high < 2 ^ 16 → low < 2 ^ 16 → bit_or ((high * 2 ^ 16) % 2 ^ 32) low ≡ high * 2 ^ 16 + low
halves_joined high low h l = ap (λ (n : ℕ). bit_or n low) (shl_whole high 16 16 32 h (omega arith)) ∙ or_shifted high 16 low l

number_modulo : (w z : ℕ) → number (highest_first w z) ≡ z % 2 ^ w
unfolding highest_first
number_modulo zero z = omega arith
number_modulo (suc w) z =
    let long : 2 ^ length (highest_first w z) ≡ 2 ^ w = ap (λ (n : ℕ). 2 ^ n) (length-highest_first w z) in
    let top : digit (binary_digit z w) ≡ z / 2 ^ w % 2 = digit-bit_of (bit_at z w) (bit_at-lt z w) in
    let rest : number (highest_first w z) ≡ z % 2 ^ w = number_modulo w z in
    let whole : z % 2 ^ (1 + w) ≡ (z / 2 ^ w % 2) * 2 ^ w + z % 2 ^ w = mod-pow-add z 1 w in
    ap (λ (n : ℕ). digit (binary_digit z w) * n + number (highest_first w z)) long
    ∙ (ap (λ (n : ℕ). n * 2 ^ w + number (highest_first w z)) top
    ∙ (ap (λ (n : ℕ). (z / 2 ^ w % 2) * 2 ^ w + n) rest
    ∙ (sym whole ∙ ap (λ (n : ℕ). z % 2 ^ n) (let e : 1 + w ≡ suc w = omega arith in e))))

pub number-highest_first : (w z : ℕ) → z < 2 ^ w → number (highest_first w z) ≡ z
number-highest_first w z h = number_modulo w z ∙ (let e : z ≡ 0 * 2 ^ w + z = omega arith in ap (λ (n : ℕ). n % 2 ^ w) e ∙ mod_low 0 w z h)

-- ---- the bits of a number of bits

number-lt : (bits : List Bit) → number bits < 2 ^ length bits
number-lt [] = omega arith
number-lt (Zero ∷ bits) = let i = number-lt bits in let e = pow-suc 2 (length bits) in omega arith
number-lt (One ∷ bits) = let i = number-lt bits in let e = pow-suc 2 (length bits) in omega arith

lowest_only : (w n a z : ℕ) → w ≤ n → highest_first w (a * 2 ^ n + z) ≡ highest_first w z
unfolding highest_first
lowest_only zero n a z h = refl
lowest_only (suc w) n a z h =
    let top : binary_digit (a * 2 ^ n + z) w ≡ binary_digit z w = digit_below a n z w (omega arith) in
    let rest : highest_first w (a * 2 ^ n + z) ≡ highest_first w z = lowest_only w n a z (omega arith) in
    cc

digit_of_bit : (b : Bit) → binary_digit (digit b) 0 ≡ b
digit_of_bit Zero = refl
digit_of_bit One = refl

pub highest_first-number : (bits : List Bit) → highest_first (length bits) (number bits) ≡ bits
unfolding highest_first
highest_first-number [] = refl
highest_first-number (b ∷ bits) =
    let n = length bits in
    let top : binary_digit (digit b * 2 ^ n + number bits) n ≡ b = digit_above (digit b) n (number bits) n 0 (number-lt bits) (omega arith) ∙ digit_of_bit b in
    let rest : highest_first n (digit b * 2 ^ n + number bits) ≡ bits = lowest_only n n (digit b) (number bits) (omega arith) ∙ highest_first-number bits in
    cc
