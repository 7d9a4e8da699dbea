-- A block's share of S, by the bytes that it carries.
use Rattle.std.proofs.Common.{◌≡◌, ℕ, zero, suc, ◌+◌, ◌-◌, ◌*◌, ◌<◌, ◌≤◌, List, ◌++◌, length, take, drop, replicate, append_assoc, refl, sym, ap, ◌∙◌, arith}
use Rattle.std.proofs.lemmas.List.{length-append, length-drop, length-replicate, take_all, take-append-le, drop-append-le}
use Rattle.std.proofs.Math.Seq.{take-append-add, drop-append-add}
use Rattle.lte_bits.specs.declared.bit.Bit.{Bit}
use Rattle.lte_bits.specs.declared.bit.Bit.TheVariants.{Zero}
use Rattle.lte_bits.specs.Packing.{unpacked}
use Rattle.lte_bits.proofs.Unpacking.{length-unpacked}
use Rattle.lte_bits.proofs.UnpackedParts.{drop-unpacked, take-unpacked}
use Rattle.model_sender.specs.CheckBits.{crc, crc24a}
use Rattle.model_sender.specs.Segmentation.{Plan, fill}
use Rattle.model_sender.specs.CodeBlocks.{before, sequence, share}
use Rattle.model_sender.proofs.CheckBitLaws.{length-crc}
use Rattle.segmentation.specs.Cutting.{bytes_before}
use Rattle.segmentation.specs.Plans.{IsPlan}
use Rattle.segmentation.proofs.BlockStarts.{IsAt, is-at}
use Rattle.segmentation.proofs.WholeBits.{fill-later}

-- the bytes of block r
abbrev pub carried : Plan → List ℕ → ℕ → List ℕ
carried p payload r = take (bytes_before p (r + 1) - bytes_before p r) (drop (bytes_before p r) payload)

-- the fillers, the bits of those bytes, and more
abbrev pub filled : Plan → List ℕ → ℕ → List Bit → List Bit
filled p payload r more = replicate (fill p r) Zero ++ (unpacked (carried p payload r) ++ more)

-- S from a block's beginning on
rest : (p : Plan) (payload : List ℕ) (r : ℕ) → IsAt p r → p.bytes ≡ length payload
    → drop (before p r) (sequence p payload) ≡ replicate (fill p r) Zero ++ (unpacked (drop (bytes_before p r) payload) ++ crc crc24a (unpacked payload))
rest p payload zero at long =
    let check : List Bit = crc crc24a (unpacked payload) in
    let none : 0 ≡ bytes_before p zero = omega (arith, at.first, at.start refl) in
    append_assoc (replicate p.f Zero) (unpacked payload) check
    ∙ ap (λ (n : ℕ). replicate p.f Zero ++ (unpacked (drop n payload) ++ check)) none
rest p payload (suc r) at long =
    let a : ℕ = bytes_before p (suc r) in
    let check : List Bit = crc crc24a (unpacked payload) in
    let after = at.after (omega arith) in
    let none : 0 ≡ fill p (suc r) = sym (fill-later p r) in
    ap (drop (before p (suc r))) (append_assoc (replicate p.f Zero) (unpacked payload) check)
    ∙ ap (λ (n : ℕ). drop n (replicate p.f Zero ++ (unpacked payload ++ check))) (let e : before p (suc r) ≡ length (replicate p.f Zero) + 8 * a = omega (arith, at.first, after, length-replicate p.f Zero) in e)
    ∙ drop-append-add (replicate p.f Zero) (unpacked payload ++ check) (8 * a)
    ∙ drop-append-le (8 * a) (unpacked payload) check (omega (arith, at.begun, long, length-unpacked payload))
    ∙ ap (λ (xs : List Bit). xs ++ check) (drop-unpacked payload a)
    ∙ ap (λ (n : ℕ). replicate n Zero ++ (unpacked (drop a payload) ++ check)) none

-- so many bits of it
taken : (f s : ℕ) (xs : List Bit) → f ≤ s → take s (replicate f Zero ++ xs) ≡ replicate f Zero ++ take (s - f) xs
taken f s xs le =
    ap (λ (n : ℕ). take n (replicate f Zero ++ xs)) (let e : s ≡ length (replicate f Zero) + (s - f) = omega (arith, length-replicate f Zero, le) in e)
    ∙ take-append-add (replicate f Zero) xs (s - f)

-- a share that isn't the last
pub share-inside : (p : Plan) (payload : List ℕ) (r : ℕ) → IsPlan p → p.bytes ≡ length payload → r + 1 < p.c
    → take (share p r) (drop (before p r) (sequence p payload)) ≡ replicate (fill p r) Zero ++ unpacked (carried p payload r)
share-inside p payload r is long below =
    let at = is-at p r is (omega (arith, below)) in
    let a : ℕ = bytes_before p r in
    let n : ℕ = bytes_before p (r + 1) - a in
    let ys : List ℕ = drop a payload in
    let check : List Bit = crc crc24a (unpacked payload) in
    let many : share p r - fill p r ≡ 8 * n = count r at in
    ap (take (share p r)) (rest p payload r at long)
    ∙ taken (fill p r) (share p r) (unpacked ys ++ check) at.fits
    ∙ ap (λ (xs : List Bit). replicate (fill p r) Zero ++ xs)
    (ap (λ (m : ℕ). take m (unpacked ys ++ check)) many
    ∙ take-append-le (8 * n) (unpacked ys) check (omega (arith, length-unpacked ys, length-drop a payload, at.inside below, at.later, long))
    ∙ take-unpacked ys n)
  where
    count : (r : ℕ) → IsAt p r → share p r - fill p r ≡ 8 * (bytes_before p (r + 1) - bytes_before p r)
    count zero at = omega (arith, at.first, at.next, at.own, at.start refl)
    count (suc r) at = omega (arith, at.first, at.next, at.own, at.after (omega arith), fill-later p r)

-- the last share
pub share-last : (p : Plan) (payload : List ℕ) (r : ℕ) → IsPlan p → p.bytes ≡ length payload → r + 1 ≡ p.c
    → take (share p r) (drop (before p r) (sequence p payload)) ≡ replicate (fill p r) Zero ++ (unpacked (carried p payload r) ++ crc crc24a (unpacked payload))
share-last p payload r is long last =
    let at = is-at p r is (omega (arith, last)) in
    let a : ℕ = bytes_before p r in
    let n : ℕ = bytes_before p (r + 1) - a in
    let ys : List ℕ = drop a payload in
    let check : List Bit = crc crc24a (unpacked payload) in
    let whole : take n ys ≡ ys = take_all n ys (omega (arith, length-drop a payload, at.next, at.last last, long)) in
    ap (take (share p r)) (rest p payload r at long)
    ∙ taken (fill p r) (share p r) (unpacked ys ++ check) at.fits
    ∙ ap (λ (xs : List Bit). replicate (fill p r) Zero ++ xs)
    (take_all (share p r - fill p r) (unpacked ys ++ check) (count r at last)
    ∙ ap (λ (xs : List ℕ). unpacked xs ++ check) (sym whole))
  where
    all : (r : ℕ) → length (unpacked (drop (bytes_before p r) payload) ++ crc crc24a (unpacked payload)) ≡ 8 * (length payload - bytes_before p r) + 24
    all r =
        let ys : List ℕ = drop (bytes_before p r) payload in
        omega (arith, length-append (unpacked ys) (crc crc24a (unpacked payload)), length-unpacked ys, length-drop (bytes_before p r) payload, length-crc crc24a (unpacked payload))

    count : (r : ℕ) → IsAt p r → r + 1 ≡ p.c → length (unpacked (drop (bytes_before p r) payload) ++ crc crc24a (unpacked payload)) ≤ share p r - fill p r
    count zero at l = omega (arith, all zero, at.first, at.own, at.start refl, at.last l, long)
    count (suc r) at l = omega (arith, all (suc r), at.first, at.own, at.after (omega arith), at.last l, fill-later p r, long)
