-- What a step of a generator gives, and what it leaves.
use Rattle.std.proofs.Common.{◌≡◌, ℕ, ◌+◌, ◌-◌, ◌/◌, ◌%◌, ◌^◌, ◌<◌, List, ap, sym, ◌∙◌, arith}
use Rattle.std.specs.Prelude.{bit_and, bit_xor}
use Rattle.std.proofs.lemmas.Nat.{and_mask, shr_below, xor_lt}
use Rattle.lte_bits.specs.Bits.{number}
use Rattle.lte_bits.specs.declared.bit.Bit.{Bit}
use Rattle.gold_scramble.specs.Places.{at, binary_digit, highest_first, places, plus}
use Rattle.gold_scramble.specs.Registers.{Registers}
use Rattle.gold_scramble.proofs.Digits.{digit_of_rest, digit_shifted, digit_xor}
use Rattle.gold_scramble.proofs.Numbers.{number-highest_first}
use Rattle.gold_scramble.proofs.PlaceLists.{at-highest_first, at-places, length-highest_first, places_from}

-- the digits of a widened register are the places
place_digit : (x : ℕ → Bit) (wide count i j : ℕ) → highest_first (31 + count) wide ≡ places x 0 (31 + count) → i + j + 1 ≡ 31 + count → binary_digit wide j ≡ x i
place_digit x wide count i j is e =
    sym (at-highest_first (31 + count) wide i j e)
    ∙ (ap (λ bits. at bits i) is
    ∙ (at-places x 0 (31 + count) i (omega arith) ∙ ap x (let f : 0 + i ≡ i = omega arith in f)))

pub given_bits-lt : (v w count : ℕ) → v < 2 ^ (31 + count) → w < 2 ^ (31 + count) → bit_xor v w / 2 ^ 31 < 2 ^ count
given_bits-lt v w count small low =
    shr_below (bit_xor v w) count 31
    (let h : bit_xor v w < 2 ^ (31 + count) = xor_lt (31 + count) v w small low in
    let e : 2 ^ (31 + count) ≡ 2 ^ (count + 31) = ap (λ (n : ℕ). 2 ^ n) (let f : 31 + count ≡ count + 31 = omega arith in f) in
    omega arith)

-- the sums of the first places, as a number
pub given_bits : (x y : ℕ → Bit) (v w count : ℕ) → highest_first (31 + count) v ≡ places x 0 (31 + count) → highest_first (31 + count) w ≡ places y 0 (31 + count)
    → v < 2 ^ (31 + count) → w < 2 ^ (31 + count) → bit_xor v w / 2 ^ 31 ≡ number (places (λ n. plus (x n) (y n)) 0 count)
given_bits x y v w count v_is w_is small low =
    let z = bit_xor v w / 2 ^ 31 in
    sym (number-highest_first count z (given_bits-lt v w count small low))
    ∙ ap number (places_from (λ n. plus (x n) (y n)) 0 count (highest_first count z) (length-highest_first count z)
    (λ i h.
    let j = count - 1 - i in
    let k = 30 + count - i in
    at-highest_first count z i j (omega arith)
    ∙ (digit_shifted (bit_xor v w) 31 j k (omega arith)
    ∙ (digit_xor v w k
    ∙ (let a : binary_digit v k ≡ x i = place_digit x v count i k v_is (omega arith) in
    let b : binary_digit w k ≡ y i = place_digit y w count i k w_is (omega arith) in
    let e : i ≡ 0 + i = omega arith in
    let f : plus (binary_digit v k) (binary_digit w k) ≡ plus (x i) (y i) = cc in
    f ∙ ap (λ (n : ℕ). plus (x n) (y n)) e)))))

-- the last 31 places, as the register
pub left_places : (x : ℕ → Bit) (wide count : ℕ) → highest_first (31 + count) wide ≡ places x 0 (31 + count) → highest_first 31 (bit_and wide (2 ^ 31 - 1)) ≡ places x count 31
left_places x wide count is =
    ap (highest_first 31) (and_mask wide 31)
    ∙ places_from x count 31 (highest_first 31 (wide % 2 ^ 31)) (length-highest_first 31 (wide % 2 ^ 31))
    (λ i h.
    at-highest_first 31 (wide % 2 ^ 31) i (30 - i) (omega arith)
    ∙ (digit_of_rest wide 31 (30 - i) (omega arith)
    ∙ place_digit x wide count (count + i) (30 - i) is (omega arith)))

pub same_registers : (p q r s : List Bit) → p ≡ r → q ≡ s → (let g : Registers = record { x1 = p; x2 = q } in g) ≡ record { x1 = r; x2 = s }
same_registers p q r s e f = cc
