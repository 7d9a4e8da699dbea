-- The numbers that a generator's registers begin with.
use Rattle.std.proofs.Common.{◌≡◌, ℕ, zero, suc, ◌+◌, ◌-◌, ◌*◌, ◌/◌, ◌%◌, refl, ap, ◌∙◌, arith, w32}
use Rattle.std.specs.Int.{reverse_bits, reverse_bits_onto}
use Rattle.gold_scramble.specs.Places.{binary_digit, highest_first}
use Rattle.gold_scramble.specs.Sequence.{x1_first, x2_first}
use Rattle.gold_scramble.proofs.Digits.{digit_above, digit_below, digit_of_rest, digit_shifted}
use Rattle.gold_scramble.proofs.PlaceLists.{at-highest_first, length-highest_first, places_from}

pub one_and_zeros : highest_first 31 1073741824 ≡ x1_first
unfolding highest_first x1_first
one_and_zeros = refl

digit_kept : (k n a i : ℕ) → binary_digit (reverse_bits_onto k n a) (k + i) ≡ binary_digit a i
unfolding reverse_bits_onto
digit_kept zero n a i = ap (binary_digit a) (let e : 0 + i ≡ i = omega arith in e)
digit_kept (suc k) n a i =
    ap (binary_digit (reverse_bits_onto k (n / 2) (a * 2 + n % 2))) (let e : suc k + i ≡ k + (i + 1) = omega arith in e)
    ∙ (digit_kept k (n / 2) (a * 2 + n % 2) (i + 1)
    ∙ digit_above a 1 (n % 2) (i + 1) i (omega arith) (omega arith))

digit_reversed : (k n a i j : ℕ) → i + j + 1 ≡ k → binary_digit (reverse_bits_onto k n a) i ≡ binary_digit n j
unfolding reverse_bits_onto
digit_reversed zero n a i j e = absurd (omega arith)
digit_reversed (suc k) n a i zero e =
    ap (binary_digit (reverse_bits_onto k (n / 2) (a * 2 + n % 2))) (let f : i ≡ k + 0 = omega arith in f)
    ∙ (digit_kept k (n / 2) (a * 2 + n % 2) 0
    ∙ (digit_below a 1 (n % 2) 0 (omega arith) ∙ digit_of_rest n 1 0 (omega arith)))
digit_reversed (suc k) n a i (suc j) e =
    digit_reversed k (n / 2) (a * 2 + n % 2) i j (omega arith) ∙ digit_shifted n 1 j (suc j) (omega arith)

pub reversed : (z : ℕ) → highest_first 31 (reverse_bits w32 z / 2) ≡ x2_first z
unfolding x2_first
reversed z =
    places_from (binary_digit z) 0 31 (highest_first 31 (reverse_bits w32 z / 2)) (length-highest_first 31 (reverse_bits w32 z / 2))
    (λ i h.
    at-highest_first 31 (reverse_bits w32 z / 2) i (30 - i) (omega arith)
    ∙ (digit_shifted (reverse_bits w32 z) 1 (30 - i) (31 - i) (omega arith)
    ∙ digit_reversed 32 z 0 (31 - i) (0 + i) (omega arith)))
