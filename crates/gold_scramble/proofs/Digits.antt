-- The binary digits of numbers that are shifted, cut and added.
use Rattle.std.proofs.Common.{◌≡◌, ℕ, zero, suc, ◌+◌, ◌-◌, ◌*◌, ◌/◌, ◌%◌, ◌^◌, ◌<◌, refl, ap, sym, ◌∙◌, arith}
use Rattle.std.specs.Prelude.{bit_xor}
use Rattle.std.specs.Int.{bit_at}
use Rattle.std.proofs.lemmas.Nat.{shr-shr, shr_split}
use Rattle.std.proofs.lemmas.Nat.Bits.{bit_at-lt, bit_at_cat_high, bit_at_cat_low, bit_at_xor}
use Rattle.lte_bits.specs.Bits.{bit_of}
use Rattle.gold_scramble.specs.Places.{binary_digit, plus}

bit_of_sum : (a b : ℕ) → a < 2 → b < 2 → bit_of ((a + b) % 2) ≡ plus (bit_of a) (bit_of b)
bit_of_sum zero zero h l = refl
bit_of_sum zero (suc zero) h l = refl
bit_of_sum (suc zero) zero h l = refl
bit_of_sum (suc zero) (suc zero) h l = refl
bit_of_sum zero (suc (suc b)) h l = absurd (omega arith)
bit_of_sum (suc zero) (suc (suc b)) h l = absurd (omega arith)
bit_of_sum (suc (suc a)) b h l = absurd (omega arith)

pub digit_xor : (a b j : ℕ) → binary_digit (bit_xor a b) j ≡ plus (binary_digit a j) (binary_digit b j)
digit_xor a b j = ap bit_of (bit_at_xor a b j) ∙ bit_of_sum (bit_at a j) (bit_at b j) (bit_at-lt a j) (bit_at-lt b j)

pub digit_shifted : (z p j k : ℕ) → p + j ≡ k → binary_digit (z / 2 ^ p) j ≡ binary_digit z k
digit_shifted z p j k e = ap (λ (n : ℕ). bit_of (n % 2)) (shr-shr z p j ∙ ap (λ (i : ℕ). z / 2 ^ i) e)

pub digit_below : (a k b i : ℕ) → i < k → binary_digit (a * 2 ^ k + b) i ≡ binary_digit b i
digit_below a k b i h = ap bit_of (bit_at_cat_low a k b i h)

pub digit_above : (a k b i j : ℕ) → b < 2 ^ k → k + j ≡ i → binary_digit (a * 2 ^ k + b) i ≡ binary_digit a j
digit_above a k b i j h e = ap bit_of (bit_at_cat_high a k b i h (omega arith)) ∙ ap (binary_digit a) (let f : i - k ≡ j = omega arith in f)

pub digit_of_rest : (z k j : ℕ) → j < k → binary_digit (z % 2 ^ k) j ≡ binary_digit z j
digit_of_rest z k j h = sym (digit_below (z / 2 ^ k) k (z % 2 ^ k) j h) ∙ ap (λ (n : ℕ). binary_digit n j) (shr_split z k)
