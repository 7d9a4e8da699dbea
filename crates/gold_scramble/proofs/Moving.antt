-- A generator that has moved on.
use Rattle.std.proofs.Common.{◌≡◌, ℕ, ◌+◌, List, ◌++◌, length, ap, sym, ◌∙◌, arith}
use Rattle.lte_bits.specs.declared.bit.Bit.{Bit}
use Rattle.gold_scramble.specs.Places.{places}
use Rattle.gold_scramble.specs.Registers.{AreWhole, Registers, coming, moved, started}
use Rattle.gold_scramble.specs.Sequence.{Recurrence, c, given, place, x1_first, x1_recurrence, x2_first, x2_recurrence}
use Rattle.gold_scramble.proofs.Continuing.{place_first, place_next, place_only}
use Rattle.gold_scramble.proofs.PlaceLists.{at-places, length-places, places-append, places_from, same_places}
use Rattle.gold_scramble.proofs.Sequences.{length-x1_first, length-x2_first}
use Rattle.gold_scramble.proofs.Stepping.{same_registers}

goes_on_after : (next : Recurrence) (first : List Bit) (n m : ℕ) → length first ≡ 31
    → place next first (n + (m + 31)) ≡ given next (λ k. place next first (n + k)) m
goes_on_after next first n m long =
    let x = place next first in
    let here : x (n + (m + 31)) ≡ x (n + m + 31) = ap x (omega arith) in
    let b : x (n + m + 1) ≡ x (n + (m + 1)) = ap x (omega arith) in
    let c : x (n + m + 2) ≡ x (n + (m + 2)) = ap x (omega arith) in
    let d : x (n + m + 3) ≡ x (n + (m + 3)) = ap x (omega arith) in
    let e : x (n + m + 31) ≡ next (x (n + m)) (x (n + m + 1)) (x (n + m + 2)) (x (n + m + 3)) = place_next next first (n + m) long in
    let f : next (x (n + m)) (x (n + m + 1)) (x (n + m + 2)) (x (n + m + 3)) ≡ next (x (n + m)) (x (n + (m + 1))) (x (n + (m + 2))) (x (n + (m + 3))) = cc in
    here ∙ (e ∙ f)

pub place-moved : (next : Recurrence) (first : List Bit) (n k : ℕ) → length first ≡ 31 → place next (places (place next first) n 31) k ≡ place next first (n + k)
place-moved next first n k long =
    sym (place_only next (places (place next first) n 31) (λ i. place next first (n + i)) (length-places (place next first) n 31)
    (λ i h. sym (at-places (place next first) n 31 i h))
    (λ m. goes_on_after next first n m long) k)

pub coming-moved : (g : Registers) (n k : ℕ) → AreWhole g → coming (moved g n) k ≡ coming g (n + k)
coming-moved g n k whole =
    let a = place-moved x1_recurrence g.x1 n k whole.first in
    let b = place-moved x2_recurrence g.x2 n k whole.second in
    cc

moved_places : (next : Recurrence) (first : List Bit) (n m : ℕ) → length first ≡ 31
    → places (place next (places (place next first) n 31)) m 31 ≡ places (place next first) (n + m) 31
moved_places next first n m long =
    same_places (place next (places (place next first) n 31)) (place next first) m (n + m) 31
    (λ i h. place-moved next first n (m + i) long ∙ ap (place next first) (let e : n + (m + i) ≡ n + m + i = omega arith in e))

pub moved-moved : (g : Registers) (n m : ℕ) → AreWhole g → moved (moved g n) m ≡ moved g (n + m)
moved-moved g n m whole =
    same_registers _ _ _ _ (moved_places x1_recurrence g.x1 n m whole.first) (moved_places x2_recurrence g.x2 n m whole.second)

pub whole_moved : (g : Registers) (n : ℕ) → AreWhole (moved g n)
whole_moved g n = record { first = length-places (place x1_recurrence g.x1) n 31; second = length-places (place x2_recurrence g.x2) n 31 }

-- bits to come, and those after them
pub coming-append : (g : Registers) (a b : ℕ) → AreWhole g → places (coming g) 0 (a + b) ≡ places (coming g) 0 a ++ places (coming (moved g a)) 0 b
coming-append g a b whole =
    places-append (coming g) 0 a b
    ∙ ap (λ bits. places (coming g) 0 a ++ bits)
    (same_places (coming g) (coming (moved g a)) (0 + a) 0 b
    (λ i h. sym (coming-moved g a (0 + i) whole ∙ ap (coming g) (let e : a + (0 + i) ≡ 0 + a + i = omega arith in e))))

-- ---- from the first places on

-- the registers of the first places
abbrev pub first_registers : (init : ℕ) → Registers
first_registers init = record { x1 = x1_first; x2 = x2_first init }

pub whole_first : (init : ℕ) → AreWhole (first_registers init)
whole_first init = record { first = length-x1_first; second = length-x2_first init }

not_moved : (next : Recurrence) (first : List Bit) → length first ≡ 31 → first ≡ places (place next first) 0 31
not_moved next first long =
    places_from (place next first) 0 31 first long
    (λ i h. sym (place_first next first i (omega arith)) ∙ ap (place next first) (let e : i ≡ 0 + i = omega arith in e))

pub first-moved : (init : ℕ) → first_registers init ≡ moved (first_registers init) 0
first-moved init =
    same_registers _ _ _ _ (not_moved x1_recurrence x1_first length-x1_first) (not_moved x2_recurrence (x2_first init) (length-x2_first init))

pub whole_started : (init : ℕ) → AreWhole (started init)
whole_started init = whole_moved (first_registers init) 1600

pub coming-started : (init n : ℕ) → coming (started init) n ≡ c init n
coming-started init n =
    coming-moved (first_registers init) 1600 n (whole_first init)
    ∙ ap (coming (first_registers init)) (let e : 1600 + n ≡ n + 1600 = omega arith in e)

pub coming-moved_started : (init m n : ℕ) → coming (moved (started init) m) n ≡ c init (m + n)
coming-moved_started init m n = coming-moved (started init) m n (whole_started init) ∙ coming-started init (m + n)
