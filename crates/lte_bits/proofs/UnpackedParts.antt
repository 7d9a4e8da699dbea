-- The number of a byte's bits, and parts of unpacked bytes.
use Rattle.std.proofs.Common.{◌≡◌, ℕ, zero, suc, ◌+◌, ◌*◌, ◌<◌, Bool, true, ◌&&◌, eqb, List, [], ◌∷◌, ◌++◌, take, drop, refl, sym, ap, ◌∙◌, inl, inr, arith}
use Rattle.std.proofs.lemmas.Bool.{cases_lt, and_parts, eqb-true}
use Rattle.std.proofs.lemmas.Grind.{common_steps}
use Rattle.std.proofs.lemmas.List.{drop-drop}
use Rattle.std.proofs.Math.Seq.{take-add, take-append_seam, drop-append_seam}
use Rattle.lte_bits.specs.declared.bit.Bit.{Bit}
use Rattle.lte_bits.specs.Bits.{number}
use Rattle.lte_bits.specs.Packing.{bits_of, unpacked}

-- ---- one byte

abbrev agree_below : ℕ → Bool
agree_below zero = true
agree_below (suc n) = eqb (number (bits_of n)) n && agree_below n

agree : agree_below 256 ≡ true
agree = refl

agree-at : (n b : ℕ) → agree_below n ≡ true → b < n → number (bits_of b) ≡ b
agree-at zero b h lt = absurd (omega (arith, lt))
agree-at (suc n) b h lt =
    let p = and_parts (eqb (number (bits_of n)) n) (agree_below n) h in
    elim (cases_lt b n) [
      | inl below ↦ agree-at n b p.1 below
      | inr above ↦ (let e : n ≡ b = omega (arith, lt, above) in ap (λ (k : ℕ). number (bits_of k)) (sym e) ∙ (eqb-true (number (bits_of n)) n p.0 ∙ e))
    ]

pub number-bits_of : (b : ℕ) → b < 256 → number (bits_of b) ≡ b
number-bits_of b lt = agree-at 256 b agree lt

-- ---- all bytes

-- what follows the first bytes
pub drop-unpacked : (bytes : List ℕ) (i : ℕ) → drop (8 * i) (unpacked bytes) ≡ unpacked (drop i bytes)
drop-unpacked bytes zero = refl
drop-unpacked [] (suc i) = grind (arith, common_steps)
drop-unpacked (b ∷ bs) (suc i) =
    ap (λ (n : ℕ). drop n (bits_of b ++ unpacked bs)) (let e : 8 * suc i ≡ 8 + 8 * i = omega arith in e)
    ∙ (sym (drop-drop (8 * i) 8 (bits_of b ++ unpacked bs))
    ∙ (ap (λ (xs : List Bit). drop (8 * i) xs) (drop-append_seam (bits_of b) (unpacked bs)) ∙ drop-unpacked bs i))

-- the first bytes
pub take-unpacked : (bytes : List ℕ) (i : ℕ) → take (8 * i) (unpacked bytes) ≡ unpacked (take i bytes)
take-unpacked bytes zero = refl
take-unpacked [] (suc i) = grind (arith, common_steps)
take-unpacked (b ∷ bs) (suc i) =
    ap (λ (n : ℕ). take n (bits_of b ++ unpacked bs)) (let e : 8 * suc i ≡ 8 + 8 * i = omega arith in e)
    ∙ (take-add 8 (8 * i) (bits_of b ++ unpacked bs)
    ∙ (ap (λ (xs : List Bit). xs ++ take (8 * i) (drop 8 (bits_of b ++ unpacked bs))) (take-append_seam (bits_of b) (unpacked bs))
    ∙ ap (λ (xs : List Bit). bits_of b ++ xs) (ap (take (8 * i)) (drop-append_seam (bits_of b) (unpacked bs)) ∙ take-unpacked bs i)))
