-- x1 and x2 by their first places and recurrences.
use Rattle.std.proofs.Common.{◌≡◌, ℕ, zero, suc, ◌+◌, ◌<◌, length, refl, ap, sym, ◌∙◌, arith}
use Rattle.std.proofs.lemmas.List.{get_or-replicate}
use Rattle.lte_bits.specs.declared.bit.Bit.{Bit}
use Rattle.lte_bits.specs.declared.bit.Bit.TheVariants.{Zero, One}
use Rattle.gold_scramble.specs.Places.{at, binary_digit, plus}
use Rattle.gold_scramble.specs.Sequence.{x1, x1_first, x1_recurrence, x2, x2_first, x2_recurrence}
use Rattle.gold_scramble.proofs.Continuing.{place_first, place_next, place_only}
use Rattle.gold_scramble.proofs.PlaceLists.{at-places, length-places}

pub length-x1_first : length x1_first ≡ 31
unfolding x1_first
length-x1_first = refl

x1_first_zeros : (n : ℕ) → 0 < n → n < 31 → at x1_first n ≡ Zero
unfolding x1_first
x1_first_zeros zero h l = absurd (omega arith)
x1_first_zeros (suc n) h l = get_or-replicate 30 n Zero Zero (omega arith)

pub x1_begins : x1 0 ≡ One
unfolding x1_first
x1_begins = place_first x1_recurrence x1_first 0 (omega arith)

pub x1_zeros : (n : ℕ) → 0 < n → n < 31 → x1 n ≡ Zero
x1_zeros n h l = place_first x1_recurrence x1_first n (let e = length-x1_first in omega arith) ∙ x1_first_zeros n h l

pub x1_goes_on : (n : ℕ) → x1 (n + 31) ≡ plus (x1 (n + 3)) (x1 n)
x1_goes_on n = place_next x1_recurrence x1_first n length-x1_first

x1_matches : (x : ℕ → Bit) → x 0 ≡ One → ((n : ℕ) → 0 < n → n < 31 → x n ≡ Zero) → (i : ℕ) → i < 31 → x i ≡ at x1_first i
unfolding x1_first
x1_matches x begins zeros zero h = begins
x1_matches x begins zeros (suc i) h = zeros (suc i) (omega arith) h ∙ sym (x1_first_zeros (suc i) (omega arith) h)

pub x1_only : (x : ℕ → Bit) → x 0 ≡ One → ((n : ℕ) → 0 < n → n < 31 → x n ≡ Zero) → ((n : ℕ) → x (n + 31) ≡ plus (x (n + 3)) (x n)) → (n : ℕ) → x n ≡ x1 n
x1_only x begins zeros goes = place_only x1_recurrence x1_first x length-x1_first (x1_matches x begins zeros) goes

pub length-x2_first : (init : ℕ) → length (x2_first init) ≡ 31
unfolding x2_first
length-x2_first init = length-places (binary_digit init) 0 31

pub at-x2_first : (init n : ℕ) → n < 31 → at (x2_first init) n ≡ binary_digit init n
unfolding x2_first
at-x2_first init n h = at-places (binary_digit init) 0 31 n h ∙ ap (binary_digit init) (let e : 0 + n ≡ n = omega arith in e)

pub x2_begins : (init n : ℕ) → n < 31 → x2 init n ≡ binary_digit init n
x2_begins init n h = place_first x2_recurrence (x2_first init) n (let e = length-x2_first init in omega arith) ∙ at-x2_first init n h

pub x2_goes_on : (init n : ℕ) → x2 init (n + 31) ≡ plus (plus (plus (x2 init (n + 3)) (x2 init (n + 2))) (x2 init (n + 1))) (x2 init n)
x2_goes_on init n = place_next x2_recurrence (x2_first init) n (length-x2_first init)

pub x2_only : (init : ℕ) (x : ℕ → Bit) → ((n : ℕ) → n < 31 → x n ≡ binary_digit init n)
    → ((n : ℕ) → x (n + 31) ≡ plus (plus (plus (x (n + 3)) (x (n + 2))) (x (n + 1))) (x n)) → (n : ℕ) → x n ≡ x2 init n
x2_only init x begins goes =
    place_only x2_recurrence (x2_first init) x (length-x2_first init) (λ i h. begins i h ∙ sym (at-x2_first init i h)) goes
