-- Lists of places.
use Rattle.std.proofs.Common.{◌≡◌, ℕ, zero, suc, ◌+◌, ◌-◌, ◌<◌, List, ◌++◌, length, refl, ap, sym, ◌∙◌, inl, inr, arith, length-append}
use Rattle.std.proofs.lemmas.Bool.{cases_lt}
use Rattle.std.proofs.lemmas.List.{ext_get_or, get_or_append_left, get_or-append_right}
use Rattle.std.proofs.lemmas.List.FromFn.{get_or-map-range_with_len, length-map-range_with_len}
use Rattle.lte_bits.specs.declared.bit.Bit.{Bit}
use Rattle.lte_bits.specs.declared.bit.Bit.TheVariants.{Zero}
use Rattle.gold_scramble.specs.Places.{at, binary_digit, highest_first, places}

pub length-places : (bit : ℕ → Bit) (n count : ℕ) → length (places bit n count) ≡ count
unfolding places
length-places bit n count = length-map-range_with_len bit n count

pub at-places : (bit : ℕ → Bit) (n count i : ℕ) → i < count → at (places bit n count) i ≡ bit (n + i)
unfolding places
at-places bit n count i h = get_or-map-range_with_len bit n count i (n + i) Zero h refl

pub places_from : (bit : ℕ → Bit) (n count : ℕ) (bits : List Bit) → length bits ≡ count → ((i : ℕ) → i < count → at bits i ≡ bit (n + i)) → bits ≡ places bit n count
places_from bit n count bits long same =
    ext_get_or Zero bits (places bit n count) (long ∙ sym (length-places bit n count))
    (λ i h. same i (omega arith) ∙ sym (at-places bit n count i (omega arith)))

-- places of one sequence are those of another
pub same_places : (x y : ℕ → Bit) (m n count : ℕ) → ((i : ℕ) → i < count → x (m + i) ≡ y (n + i)) → places x m count ≡ places y n count
same_places x y m n count same =
    places_from y n count (places x m count) (length-places x m count)
    (λ i h. at-places x m count i h ∙ same i h)

joined : (x : ℕ → Bit) (n a b i : ℕ) → i < a + b → at (places x n a ++ places x (n + a) b) i ≡ x (n + i)
joined x n a b i h =
    elim (cases_lt i a) [
      | inl below ↦
          get_or_append_left (places x n a) (places x (n + a) b) Zero i (omega (arith, length-places x n a))
          ∙ at-places x n a i below
      | inr above ↦
          get_or-append_right (places x n a) (places x (n + a) b) a i Zero (length-places x n a) above
          ∙ (at-places x (n + a) b (i - a) (omega arith) ∙ ap x (let e : n + a + (i - a) ≡ n + i = omega arith in e))
    ]

pub places-append : (x : ℕ → Bit) (n a b : ℕ) → places x n (a + b) ≡ places x n a ++ places x (n + a) b
places-append x n a b =
    sym (places_from x n (a + b) (places x n a ++ places x (n + a) b)
    (length-append (places x n a) (places x (n + a) b) ∙ (let p = length-places x n a in let q = length-places x (n + a) b in omega arith))
    (joined x n a b))

pub length-highest_first : (w z : ℕ) → length (highest_first w z) ≡ w
unfolding highest_first
length-highest_first zero z = refl
length-highest_first (suc w) z = ap suc (length-highest_first w z)

-- place i is the digit of weight 2^j
pub at-highest_first : (w z i j : ℕ) → i + j + 1 ≡ w → at (highest_first w z) i ≡ binary_digit z j
unfolding highest_first
at-highest_first zero z i j e = absurd (omega arith)
at-highest_first (suc w) z zero j e = ap (binary_digit z) (let f : w ≡ j = omega arith in f)
at-highest_first (suc w) z (suc i) j e = at-highest_first w z i j (omega arith)
