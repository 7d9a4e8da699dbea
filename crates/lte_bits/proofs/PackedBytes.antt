-- Bits as bytes, eight by eight.
use Rattle.std.proofs.Common.{◌≡◌, ℕ, ◌*◌, ◌/◌, ◌<◌, ◌≤◌, ◌-◌, List, ◌++◌, length, take, drop, get_or, sym, ap, ◌∙◌, arith}
use Rattle.std.proofs.lemmas.List.{take_all, append-nil, length-take, length-drop}
use Rattle.std.specs.Prelude.{replicate}
use Rattle.std.specs.Simd.{first_chunks}
use Rattle.lte_bits.proofs.Chunks.{chunk-at}
use Rattle.lte_bits.specs.Bits.{number}
use Rattle.lte_bits.specs.Lists.{resized}
use Rattle.lte_bits.specs.Packing.{byte_at}
use Rattle.lte_bits.specs.declared.bit.Bit.{Bit}
use Rattle.lte_bits.specs.declared.bit.Bit.TheVariants.{Zero}

-- what has its length stays
resized-whole : {X : Type 0} (xs : List X) (n : ℕ) (x : X) → length xs ≡ n → resized xs n x ≡ xs
resized-whole xs n x long =
    ap (λ k. take n xs ++ replicate k x) (let e : n - length xs ≡ 0 = omega (arith, long) in e)
    ∙ append-nil (take n xs)
    ∙ take_all n xs (omega (arith, long))

-- a byte of eight bits
pub whole-byte : (bits d : List Bit) (chunks : List (List Bit)) (n i byte : ℕ) → n ≡ length bits / 8 → i < n → chunks ≡ first_chunks 8 n bits
    → byte ≡ number (get_or chunks i d) → byte ≡ byte_at bits i
whole-byte bits d chunks n i byte many below are is =
    let e : get_or chunks i d ≡ take 8 (drop (8 * i) bits) = ap (λ cs. get_or cs i d) are ∙ chunk-at 8 n i bits d below ∙ ap (λ m. take 8 (drop m bits)) (let f : i * 8 ≡ 8 * i = omega arith in f) in
    let long : length (take 8 (drop (8 * i) bits)) ≡ 8 = omega (arith, length-take 8 (drop (8 * i) bits), length-drop (8 * i) bits, many, below) in
    is ∙ ap number (e ∙ sym (resized-whole (take 8 (drop (8 * i) bits)) 8 Zero long))

-- the byte of what is left
pub short-byte : (bits last : List Bit) (n byte : ℕ) → n ≡ length bits / 8 → last ≡ drop (n * 8) bits → byte ≡ number (resized last 8 Zero) → byte ≡ byte_at bits n
short-byte bits last n byte many rest is =
    let e : last ≡ drop (8 * n) bits = rest ∙ ap (λ m. drop m bits) (let f : n * 8 ≡ 8 * n = omega arith in f) in
    let few : length last ≤ 8 = omega (arith, ap length rest, length-drop (n * 8) bits, many) in
    is ∙ ap (λ xs. number (resized xs 8 Zero)) (sym (take_all 8 last few) ∙ ap (take 8) e)
