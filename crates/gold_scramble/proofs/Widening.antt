-- A register as a number, and the places after it.
use Rattle.std.proofs.Common.{◌≡◌, ℕ, ◌+◌, ◌-◌, ◌*◌, ◌/◌, ◌%◌, ◌^◌, ◌<◌, ◌≤◌, length, refl, ap, sym, ◌∙◌, inl, inr, arith}
use Rattle.std.specs.Prelude.{bit_and, bit_or, bit_xor}
use Rattle.std.proofs.lemmas.Bool.{cases_lt}
use Rattle.std.proofs.lemmas.Nat.{and_mask, mod_below, mul-add-lt, one_shl, or_shifted, pow-add, pow_pos, shl_whole}
use Rattle.gold_scramble.specs.Places.{at, binary_digit, highest_first, places, plus}
use Rattle.gold_scramble.specs.Sequence.{Recurrence, given, place, x1_recurrence, x2_recurrence}
use Rattle.gold_scramble.proofs.Continuing.{place_first, place_next}
use Rattle.gold_scramble.proofs.Digits.{digit_above, digit_below, digit_of_rest, digit_shifted, digit_xor}
use Rattle.gold_scramble.proofs.PlaceLists.{at-highest_first, length-highest_first, places_from}

-- the register x, and the lowest digits of y after it
abbrev wide : (x count y : ℕ) → ℕ
wide x count y = x * 2 ^ count + y % 2 ^ count

-- as the code has it
abbrev pub widened_number : (x count y : ℕ) → ℕ
widened_number x count y = bit_or ((x * 2 ^ count) % 2 ^ 64) (bit_and y ((1 * 2 ^ count) % 2 ^ 64 - 1))

widened_number_is : (x count y : ℕ) → x < 2 ^ 31 → count ≤ 28 → widened_number x count y ≡ wide x count y
widened_number_is x count y small few =
    let shifted : (x * 2 ^ count) % 2 ^ 64 ≡ x * 2 ^ count = shl_whole x 31 count 64 small (omega arith) in
    let one : (1 * 2 ^ count) % 2 ^ 64 ≡ 2 ^ count = one_shl count 64 (omega arith) in
    let mask : bit_and y (2 ^ count - 1) ≡ y % 2 ^ count = and_mask y count in
    ap (λ (n : ℕ). bit_or ((x * 2 ^ count) % 2 ^ 64) (bit_and y (n - 1))) one
    ∙ (ap (λ (n : ℕ). bit_or n (bit_and y (2 ^ count - 1))) shifted
    ∙ (ap (bit_or (x * 2 ^ count)) mask
    ∙ or_shifted x count (y % 2 ^ count) (mod_below y (2 ^ count) (pow_pos count))))

wide-lt : (x count y : ℕ) → x < 2 ^ 31 → wide x count y < 2 ^ (31 + count)
wide-lt x count y small =
    rw (pow-add 2 31 count) (let h = mul-add-lt x (2 ^ count) (y % 2 ^ count) (2 ^ 31) small (mod_below y (2 ^ count) (pow_pos count)) in omega arith)

given_first : (next : Recurrence) (x n : ℕ) → n < 28 → given next (at (highest_first 31 x)) n ≡ given next (place next (highest_first 31 x)) n
given_first next x n h =
    let first = highest_first 31 x in
    let long : length first ≡ 31 = length-highest_first 31 x in
    let a : place next first n ≡ at first n = place_first next first n (omega arith) in
    let b : place next first (n + 1) ≡ at first (n + 1) = place_first next first (n + 1) (omega arith) in
    let c : place next first (n + 2) ≡ at first (n + 2) = place_first next first (n + 2) (omega arith) in
    let d : place next first (n + 3) ≡ at first (n + 3) = place_first next first (n + 3) (omega arith) in
    cc

widened_place : (next : Recurrence) (x count y : ℕ) → count ≤ 28
    → ((n j : ℕ) → n + j + 1 ≡ count → binary_digit y j ≡ given next (at (highest_first 31 x)) n)
    → (i : ℕ) → i < 31 + count → at (highest_first (31 + count) (wide x count y)) i ≡ place next (highest_first 31 x) i
widened_place next x count y few fresh i h =
    let first = highest_first 31 x in
    let long : length first ≡ 31 = length-highest_first 31 x in
    let j = 30 + count - i in
    let here : at (highest_first (31 + count) (wide x count y)) i ≡ binary_digit (wide x count y) j = at-highest_first (31 + count) (wide x count y) i j (omega arith) in
    elim (cases_lt i 31) [
      | inl old ↦
          here
          ∙ (digit_above x count (y % 2 ^ count) j (30 - i) (mod_below y (2 ^ count) (pow_pos count)) (omega arith)
          ∙ (sym (at-highest_first 31 x i (30 - i) (omega arith))
          ∙ sym (place_first next first i (omega arith))))
      | inr new ↦
          let n = i - 31 in
          let e : n + 31 ≡ i = omega arith in
          here
          ∙ (digit_below x count (y % 2 ^ count) j (omega arith)
          ∙ (digit_of_rest y count j (omega arith)
          ∙ (fresh n j (omega arith)
          ∙ (given_first next x n (omega arith)
          ∙ (sym (place_next next first n long) ∙ ap (place next first) e)))))
    ]

widened : (next : Recurrence) (x count y : ℕ) → count ≤ 28
    → ((n j : ℕ) → n + j + 1 ≡ count → binary_digit y j ≡ given next (at (highest_first 31 x)) n)
    → highest_first (31 + count) (wide x count y) ≡ places (place next (highest_first 31 x)) 0 (31 + count)
widened next x count y few fresh =
    places_from (place next (highest_first 31 x)) 0 (31 + count) (highest_first (31 + count) (wide x count y))
    (length-highest_first (31 + count) (wide x count y))
    (λ i h. widened_place next x count y few fresh i h ∙ ap (place next (highest_first 31 x)) (let e : i ≡ 0 + i = omega arith in e))

pub widened_places : (next : Recurrence) (register x count y : ℕ) → x ≡ register → register < 2 ^ 31 → count ≤ 28
    → ((n j : ℕ) → n + j + 1 ≡ count → binary_digit y j ≡ given next (at (highest_first 31 x)) n)
    → highest_first (31 + count) (widened_number x count y) ≡ places (place next (highest_first 31 register)) 0 (31 + count)
widened_places next register x count y e small few fresh =
    ap (highest_first (31 + count)) (widened_number_is x count y (omega arith) few)
    ∙ (widened next x count y few fresh
    ∙ ap (λ (z : ℕ). places (place next (highest_first 31 z)) 0 (31 + count)) e)

pub widened-lt : (register x count y : ℕ) → x ≡ register → register < 2 ^ 31 → count ≤ 28 → widened_number x count y < 2 ^ (31 + count)
widened-lt register x count y e small few =
    let is = widened_number_is x count y (omega arith) few in
    let h = wide-lt x count y (omega arith) in
    omega arith

-- a place of the register, as the shifted register has it
tap : (x count k n j m : ℕ) → count ≤ 28 → k ≤ 3 → n + j + 1 ≡ count → m ≡ n + k → binary_digit (x / 2 ^ (31 - k - count)) j ≡ at (highest_first 31 x) m
tap x count k n j m few taps e f =
    digit_shifted x (31 - k - count) j (30 - m) (omega arith) ∙ sym (at-highest_first 31 x m (30 - m) (omega arith))

abbrev pub x1_next : (x count : ℕ) → ℕ
x1_next x count = bit_xor (x / 2 ^ (28 - count)) (x / 2 ^ (31 - count))

pub x1_fresh : (x count : ℕ) → count ≤ 28 → (n j : ℕ) → n + j + 1 ≡ count → binary_digit (x1_next x count) j ≡ given x1_recurrence (at (highest_first 31 x)) n
x1_fresh x count few n j e =
    let d : binary_digit (x / 2 ^ (28 - count)) j ≡ at (highest_first 31 x) (n + 3) = tap x count 3 n j (n + 3) few (omega arith) e refl in
    let a : binary_digit (x / 2 ^ (31 - count)) j ≡ at (highest_first 31 x) n = tap x count 0 n j n few (omega arith) e (omega arith) in
    digit_xor (x / 2 ^ (28 - count)) (x / 2 ^ (31 - count)) j ∙ (let f : plus (binary_digit (x / 2 ^ (28 - count)) j) (binary_digit (x / 2 ^ (31 - count)) j)
    ≡ plus (at (highest_first 31 x) (n + 3)) (at (highest_first 31 x) n) = cc in f)

abbrev pub x2_next : (x count : ℕ) → ℕ
x2_next x count = bit_xor (bit_xor (bit_xor (x / 2 ^ (28 - count)) (x / 2 ^ (29 - count))) (x / 2 ^ (30 - count))) (x / 2 ^ (31 - count))

pub x2_fresh : (x count : ℕ) → count ≤ 28 → (n j : ℕ) → n + j + 1 ≡ count → binary_digit (x2_next x count) j ≡ given x2_recurrence (at (highest_first 31 x)) n
x2_fresh x count few n j e =
    let first = highest_first 31 x in
    let d' = x / 2 ^ (28 - count) in
    let c' = x / 2 ^ (29 - count) in
    let b' = x / 2 ^ (30 - count) in
    let a' = x / 2 ^ (31 - count) in
    let d : binary_digit d' j ≡ at first (n + 3) = tap x count 3 n j (n + 3) few (omega arith) e refl in
    let c : binary_digit c' j ≡ at first (n + 2) = tap x count 2 n j (n + 2) few (omega arith) e refl in
    let b : binary_digit b' j ≡ at first (n + 1) = tap x count 1 n j (n + 1) few (omega arith) e refl in
    let a : binary_digit a' j ≡ at first n = tap x count 0 n j n few (omega arith) e (omega arith) in
    let dc = digit_xor d' c' j in
    let dcb = digit_xor (bit_xor d' c') b' j in
    let dcba = digit_xor (bit_xor (bit_xor d' c') b') a' j in
    cc
