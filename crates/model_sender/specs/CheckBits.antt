-- Check bits (36.212 5.1.1).
--
-- A list of bits is a polynomial over the field of two elements, its first bit at the highest power. A
-- polynomial is written as the number whose binary digits are its coefficients, so that a sum is `bit_xor`.
use Rattle.std.specs.Prelude.{◌≡◌, ℕ, zero, suc, ◌+◌, ◌*◌, ◌/◌, ◌%◌, ◌^◌, ◌<◌, ◌≤◌, List, [], ◌∷◌, ◌++◌, length, bit_xor, cond, nat_lt, replicate}
use Rattle.lte_bits.specs.Bits.{digit, number, bit_of}
use Rattle.lte_bits.specs.declared.bit.Bit.{Bit}
use Rattle.lte_bits.specs.declared.bit.Bit.TheVariants.{Zero}

-- g times the polynomial with the coefficients q, the lowest first
abbrev pub times : ℕ → List Bit → ℕ
times g [] = 0
times g (b ∷ q) = bit_xor (2 * times g q) (digit b * g)

-- b is g times some polynomial
abbrev pub IsMultiple : ℕ → List Bit → Type 0
IsMultiple g b = (q : List Bit) × (number b ≡ times g q)

-- p is the one list of 24 bits for which b followed by p is a multiple of g
pub record IsCrc (g : ℕ) (b p : List Bit) : Type 0 where
  pub width : length p ≡ 24
  pub multiple : IsMultiple g (b ++ p)
  pub only : (o : List Bit) → length o ≡ 24 → IsMultiple g (b ++ o) → o ≡ p

-- D^24+D^23+D^18+D^17+D^14+D^11+D^10+D^7+D^6+D^5+D^4+D^3+D+1
abbrev pub crc24a : ℕ
crc24a = 0x1864CFB

-- D^24+D^23+D^6+D^5+D+1
abbrev pub crc24b : ℕ
crc24b = 0x1800063

-- ---- The check bits as a function, which the law `crc_is_the_one` ties to `IsCrc`.

-- g has degree 24
pub record IsMonic (g : ℕ) : Type 0 where
  pub low : 2 ^ 24 ≤ g
  pub high : g < 2 ^ 25

-- a polynomial of degree 24 at most, modulo g
abbrev pub reduced : ℕ → ℕ → ℕ
reduced g t = cond (nat_lt t (2 ^ 24)) t (bit_xor t g)

-- r, followed by the bits, modulo g
abbrev pub remainder : ℕ → ℕ → List Bit → ℕ
remainder g r [] = r
remainder g r (b ∷ bs) = remainder g (reduced g (2 * r + digit b)) bs

-- the n lowest digits of r, the highest first
abbrev pub digits : ℕ → ℕ → List Bit
digits zero r = []
digits (suc n) r = bit_of (r / 2 ^ n) ∷ digits n (r % 2 ^ n)

-- the 24 digits of the remainder of b D^24
unfoldable pub crc : ℕ → List Bit → List Bit
crc g b = digits 24 (remainder g (remainder g 0 b) (replicate 24 Zero))
