-- The bits of bytes, and their writing by halves of a byte.
use Rattle.std.proofs.Common.{◌≡◌, ℕ, ◌+◌, ◌*◌, ◌/◌, ◌%◌, ◌<◌, ◌≤◌, List, [], ◌∷◌, ◌++◌, length, take, get_or, refl, sym, ap, ◌∙◌, append_assoc, length-append, arith}
use Rattle.std.specs.Int.{bit_at}
use Rattle.std.proofs.lemmas.Grind.{common_steps, flat_map-append}
use Rattle.std.proofs.lemmas.List.{take_more, append-nil, length-take}
use Rattle.std.proofs.lemmas.Slice.{take-put_mid}
use borrow.Rule.Slice.PartMut.{put_mid}
use Rattle.lte_bits.specs.declared.bit.Bit.{Bit}
use Rattle.lte_bits.specs.Packing.{bits_of, four_bits, unpacked}

pub length-unpacked : (bytes : List ℕ) → length (unpacked bytes) ≡ 8 * length bytes
length-unpacked [] = refl
length-unpacked (byte ∷ bytes) = grind (arith, common_steps, length-unpacked bytes)

-- a byte by its halves
halves : (byte : ℕ) → four_bits (byte / 16) ++ four_bits (byte % 16) ≡ bits_of byte
halves byte =
    let e7 : bit_at (byte / 16) 3 ≡ bit_at byte 7 = omega arith in
    let e6 : bit_at (byte / 16) 2 ≡ bit_at byte 6 = omega arith in
    let e5 : bit_at (byte / 16) 1 ≡ bit_at byte 5 = omega arith in
    let e4 : bit_at (byte / 16) 0 ≡ bit_at byte 4 = omega arith in
    let e3 : bit_at (byte % 16) 3 ≡ bit_at byte 3 = omega arith in
    let e2 : bit_at (byte % 16) 2 ≡ bit_at byte 2 = omega arith in
    let e1 : bit_at (byte % 16) 1 ≡ bit_at byte 1 = omega arith in
    let e0 : bit_at (byte % 16) 0 ≡ bit_at byte 0 = omega arith in
    rw (e7, e6, e5, e4, e3, e2, e1, e0) refl

-- two parts written one after the other
two_written : {X : Type 0} (old high low : List X) (at k m : ℕ) → at + 8 ≤ length old → length high ≡ 4 → length low ≡ 4 → m ≡ 4
    → take (at + 8) (put_mid (at + 4) k (put_mid at m old high) low) ≡ take at old ++ (high ++ low)
two_written {X} old high low at k m fits h l four =
    let mid : List X = put_mid at m old high in
    let first : take (at + 4) mid ≡ take at old ++ high = take-put_mid at m old high (at + 4) (omega (arith, h)) (omega (arith, fits)) in
    let long : at + 4 ≤ length mid = omega (arith, ap length first, length-take (at + 4) mid, length-append (take at old) high, length-take at old, h, fits) in
    take-put_mid (at + 4) k mid low (at + 8) (omega (arith, l)) (omega (arith, fits, long))
    ∙ ap (λ xs. xs ++ low) first
    ∙ append_assoc (take at old) high low

-- a byte more is written
pub byte_more : (bytes : List ℕ) (old high low : List Bit) (i byte k m : ℕ) → i < length bytes → 8 * i + 8 ≤ length old → m ≡ 4 → byte ≡ get_or bytes i 0
    → high ≡ four_bits (byte / 16) → low ≡ four_bits (byte % 16) → take (8 * i) old ≡ unpacked (take i bytes)
    → take (8 * (i + 1)) (put_mid (8 * i + 4) k (put_mid (8 * i) m old high) low) ≡ unpacked (take (i + 1) bytes)
byte_more bytes old high low i byte k m below fits four is high_is low_is before =
    ap (λ n. take n (put_mid (8 * i + 4) k (put_mid (8 * i) m old high) low)) (let e : 8 * (i + 1) ≡ 8 * i + 8 = omega arith in e)
    ∙ two_written old high low (8 * i) k m fits (ap length high_is) (ap length low_is) four
    ∙ ap (λ xs. xs ++ (high ++ low)) before
    ∙ ap (λ xs. unpacked (take i bytes) ++ xs) (rw (high_is, low_is) (halves byte) ∙ ap bits_of is ∙ sym (append-nil (bits_of (get_or bytes i 0))))
    ∙ sym (flat_map-append bits_of (take i bytes) (get_or bytes i 0 ∷ []))
    ∙ ap unpacked (sym (take_more bytes i 0 below))
