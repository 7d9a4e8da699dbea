-- The bits of the words that a generator gives, and lists that take them.
use Rattle.std.proofs.Common.{◌≡◌, ℕ, ◌+◌, ◌*◌, ◌<◌, ◌≤◌, List, length, get_or, take, drop, map, ap, sym, ◌∙◌, arith}
use Rattle.std.specs.List.{range_with_len}
use Rattle.std.proofs.lemmas.List.{get_or-drop, get_or-take, length-drop, length-take-le}
use Rattle.std.proofs.lemmas.List.FromFn.{get_or-map-range_with_len, length-map-range_with_len}
use borrow.Rule.Slice.PartMut.{put_mid}
use Rattle.lte_bits.specs.Bits.{number}
use Rattle.lte_bits.specs.declared.bit.Bit.{Bit}
use Rattle.gold_scramble.specs.Places.{at, highest_first, places}
use Rattle.gold_scramble.specs.Registers.{Registers, coming, moved, started}
use Rattle.gold_scramble.specs.Sequence.{c}
use Rattle.gold_scramble.proofs.Moving.{coming-moved_started, first_registers, moved-moved, whole_first, whole_started}
use Rattle.gold_scramble.proofs.Numbers.{highest_first-number}
use Rattle.gold_scramble.proofs.PlaceLists.{at-places, length-places}
use Rattle.gold_scramble.proofs.Words.{IsWritten, part_written}

pub started-moved : (init : ℕ) → started init ≡ moved (started init) 0
started-moved init = sym (moved-moved (first_registers init) 1600 0 (whole_first init))

pub one_word_on : (init i : ℕ) (g h : Registers) → g ≡ moved (started init) (32 * i) → h ≡ moved g 32 → h ≡ moved (started init) (32 * (i + 1))
one_word_on init i g h is step =
    step
    ∙ (ap (λ r. moved r 32) is
    ∙ (moved-moved (started init) (32 * i) 32 (whole_started init)
    ∙ ap (moved (started init)) (let e : 32 * i + 32 ≡ 32 * (i + 1) = omega arith in e)))

bits_of_word : (x : ℕ → Bit) (count : ℕ) → highest_first count (number (places x 0 count)) ≡ places x 0 count
bits_of_word x count =
    ap (λ (n : ℕ). highest_first n (number (places x 0 count))) (sym (length-places x 0 count)) ∙ highest_first-number (places x 0 count)

word_bits : (init from word : ℕ) (g : Registers) → g ≡ moved (started init) from → word ≡ number (places (coming g) 0 32)
    → (k : ℕ) → k < 32 → at (highest_first 32 word) k ≡ c init (from + k)
word_bits init from word g is w k h =
    ap (λ (n : ℕ). at (highest_first 32 n) k) (w ∙ ap (λ r. number (places (coming r) 0 32)) is)
    ∙ (ap (λ bits. at bits k) (bits_of_word (coming (moved (started init) from)) 32)
    ∙ (at-places (coming (moved (started init) from)) 0 32 k h
    ∙ (ap (coming (moved (started init) from)) (let e : 0 + k ≡ k = omega arith in e)
    ∙ coming-moved_started init from k)))

-- the part of a list that takes the bits of a word by e
abbrev pub taken : {X : Type 0} → (X → Bit → X) → X → (ℕ → Bit) → List X → List X
taken e d s part = map (λ i. e (get_or part i d) (s i)) (range_with_len 0 (length part))

length-part : {X : Type 0} (from width : ℕ) (xs : List X) → from + width ≤ length xs → length (take width (drop from xs)) ≡ width
length-part from width xs within = length-take-le width (drop from xs) (let l = length-drop from xs in omega arith)

pub length-taken : {X : Type 0} (e : X → Bit → X) (d : X) (s : ℕ → Bit) (xs zs : List X) (from width : ℕ) → from + width ≤ length xs
    → zs ≡ taken e d s (take width (drop from xs)) → length zs ≡ width
length-taken e d s xs zs from width within is =
    let part = take width (drop from xs) in
    ap length is ∙ (length-map-range_with_len (λ i. e (get_or part i d) (s i)) 0 (length part) ∙ length-part from width xs within)

element_taken : {X : Type 0} (e : X → Bit → X) (d : X) (s : ℕ → Bit) (xs zs : List X) (from width k : ℕ) → from + width ≤ length xs
    → zs ≡ taken e d s (take width (drop from xs)) → k < width → get_or zs k d ≡ e (get_or xs (from + k) d) (s k)
element_taken e d s xs zs from width k within is h =
    let part = take width (drop from xs) in
    ap (λ l. get_or l k d) is
    ∙ (get_or-map-range_with_len (λ i. e (get_or part i d) (s i)) 0 (length part) k k d (let l = length-part from width xs within in omega arith) (omega arith)
    ∙ ap (λ x. e x (s k)) (get_or-take width (drop from xs) k d h ∙ get_or-drop from xs k d))

-- a list that took the words' bits up to a place, one word on
pub word_taken : {X : Type 0} (e : X → Bit → X) (d : X) (init from width end word : ℕ) (g : Registers) (ys xs zs : List X) → g ≡ moved (started init) from
    → word ≡ number (places (coming g) 0 32) → width ≤ 32 → from + width ≤ length xs → zs ≡ taken e d (at (highest_first 32 word)) (take width (drop from xs))
    → IsWritten (λ k x. e x (c init k)) d ys from xs → from + width ≤ end → ((k : ℕ) → k < end → k < length ys → k < from + width)
    → IsWritten (λ k x. e x (c init k)) d ys end (put_mid from width xs zs)
word_taken e d init from width end word g ys xs zs is w few within part before ends reaches =
    part_written (λ k x. e x (c init k)) d ys xs zs from width end within (length-taken e d (at (highest_first 32 word)) xs zs from width within part) before
    (λ k h. element_taken e d (at (highest_first 32 word)) xs zs from width k within part h ∙ ap (e (get_or xs (from + k) d)) (word_bits init from word g is w k (omega arith)))
    ends reaches
