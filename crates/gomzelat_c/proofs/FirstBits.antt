-- The first bits of bytes.
use Rattle.std.proofs.Common.{◌≡◌, ℕ, ◌-◌, ◌*◌, ◌≤◌, List, ◌++◌, length, take, drop, sym, ap, ◌∙◌, arith}
use Rattle.std.specs.Prelude.{replicate}
use Rattle.std.proofs.lemmas.Grind.{flat_map-append}
use Rattle.std.proofs.lemmas.List.{append-nil, length-take-le, take-append-drop, take-append-le}
use Rattle.lte_bits.specs.Lists.{resized}
use Rattle.lte_bits.specs.Packing.{bits_of, unpacked}
use Rattle.lte_bits.specs.declared.bit.Bit.TheVariants.{Zero}
use Rattle.lte_bits.proofs.Unpacking.{length-unpacked}

-- where the first n bytes have as many bits, resizing only drops bits, and these are the first of all bytes
pub first_bits : (count n : ℕ) (bytes : List ℕ) → count ≤ 8 * n → n ≤ length bytes → resized (unpacked (take n bytes)) count Zero ≡ take count (unpacked bytes)
first_bits count n bytes enough within =
    let front = unpacked (take n bytes) in
    let long : count ≤ length front = omega (arith, enough, length-unpacked (take n bytes), length-take-le n bytes within) in
    let none : count - length front ≡ 0 = omega (arith, long) in
    ap (λ k. take count front ++ replicate k Zero) none
    ∙ append-nil (take count front)
    ∙ sym (take-append-le count front (unpacked (drop n bytes)) long)
    ∙ ap (take count) (sym (flat_map-append bits_of (take n bytes) (drop n bytes)))
    ∙ ap (λ xs. take count (unpacked xs)) (take-append-drop n bytes)
