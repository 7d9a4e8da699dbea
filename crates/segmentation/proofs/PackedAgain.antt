-- Bytes that are unpacked and packed again.
use Rattle.std.proofs.Common.{◌≡◌, ℕ, zero, suc, ◌+◌, ◌/◌, ◌<◌, All, List, [], ◌∷◌, ◌++◌, length, map, get_or, take, drop, refl, sym, ap, ◌∙◌, arith}
use Rattle.std.specs.List.{range_with_len}
use Rattle.std.proofs.lemmas.List.FromFn.{fill_by_all}
use Rattle.std.proofs.Math.Seq.{take-append_seam}
use Rattle.lte_bits.specs.Bits.{number}
use Rattle.lte_bits.specs.Packing.{bits_of, unpacked, byte_at, packed}
use Rattle.lte_bits.specs.declared.bit.Bit.{Bit}
use Rattle.lte_bits.specs.declared.bit.Bit.TheVariants.{Zero}
use Rattle.lte_bits.specs.Lists.{resized}
use Rattle.lte_bits.proofs.Unpacking.{length-unpacked}
use Rattle.lte_bits.proofs.UnpackedParts.{drop-unpacked, number-bits_of}

byte_at-first : (b : ℕ) (rest : List Bit) → number (resized (take 8 (bits_of b ++ rest)) 8 Zero) ≡ number (bits_of b)
byte_at-first b rest = ap (λ (xs : List Bit). number (resized xs 8 Zero)) (take-append_seam (bits_of b) rest)

byte_at-unpacked : (bytes : List ℕ) (i : ℕ) → i < length bytes → byte_at (unpacked bytes) i ≡ number (bits_of (get_or bytes i 0))
byte_at-unpacked bytes i lt = ap (λ (xs : List Bit). number (resized (take 8 xs) 8 Zero)) (drop-unpacked bytes i) ∙ at_first bytes i lt
  where
    at_first : (bytes : List ℕ) (i : ℕ) → i < length bytes → number (resized (take 8 (unpacked (drop i bytes))) 8 Zero) ≡ number (bits_of (get_or bytes i 0))
    at_first [] i lt = absurd (omega (arith, lt))
    at_first (b ∷ bs) zero lt = byte_at-first b (unpacked bs)
    at_first (b ∷ bs) (suc i) lt = at_first bs i (omega (arith, lt))

pub packed-unpacked : (bytes : List ℕ) → All (λ byte. byte < 256) bytes → packed (unpacked bytes) ≡ bytes
packed-unpacked bytes small =
    let count : (length (unpacked bytes) + 7) / 8 ≡ length bytes = omega (arith, length-unpacked bytes) in
    ap (λ (n : ℕ). map (byte_at (unpacked bytes)) (range_with_len 0 n)) count
    ∙ sym (fill_by_all (byte_at (unpacked bytes)) bytes (length bytes) 0 refl (λ k lt. sym (byte_at-unpacked bytes k lt ∙ number-bits_of (get_or bytes k 0) (small k 0 lt))))
