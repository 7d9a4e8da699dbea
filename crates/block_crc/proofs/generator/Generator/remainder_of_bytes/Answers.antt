use Rattle.std.proofs.Common.{◌≡◌, ℕ, ◌+◌, ◌*◌, ◌/◌, ◌<◌, [], length, drop, get_or, sym, ap, subst, ◌∙◌, arith}
use Rattle.lte_bits.specs.Packing.{bits_of, unpacked}
use Rattle.lte_bits.proofs.UnpackedParts.{number-bits_of}
use Rattle.model_sender.specs.CheckBits.{remainder}
use Rattle.block_crc.proofs.Chunks.{byte_of_two, two_more, last_byte}
use Rattle.block_crc.proofs.generator.Generator.remainder_of_bytes.Goals as goal

pub loop-two-preserved : goal.loop-two-preserved
loop-two-preserved c =
    let g = c.args.self.now.coefficients in
    let bytes = c.args.bytes.now in
    let loop = c.loop-two in
    let chunks = c.as_chunks.result.0.now in
    let i : ℕ = loop.two-index in
    let n : ℕ = length bytes / 2 in
    let below : i < n = omega (arith, c.loop-two-test.true, c.as_chunks.ensures.front_len) in
    let x : ℕ = get_or (get_or chunks i []) 0 0 in
    let y : ℕ = get_or (get_or chunks i []) 1 0 in
    let first : x < 256 = subst (λ (b : ℕ). b < 256) (sym (byte_of_two n i 0 bytes [] chunks below (omega arith) c.as_chunks.ensures.front)) (omega (arith, c.type_inv.bytes (i * 2 + 0))) in
    let second : y < 256 = subst (λ (b : ℕ). b < 256) (sym (byte_of_two n i 1 bytes [] chunks below (omega arith) c.as_chunks.ensures.front)) (omega (arith, c.type_inv.bytes (i * 2 + 1))) in
    record {
      value =
          two_more g n i loop.rest c.remainder_of_two-rest.result bytes [] chunks below (omega arith) c.as_chunks.ensures.front
          (c.remainder_of_two-rest.ensures.value (bits_of x) (bits_of y) (omega arith) (number-bits_of x first) (omega arith) (number-bits_of y second))
          ∙ loop.invariant.value;
      small = c.remainder_of_two-rest.ensures.small;
    }

pub returns-in-len1-clause-value : goal.returns-in-len1-clause-value
returns-in-len1-clause-value c =
    let g = c.args.self.now.coefficients in
    let bytes = c.args.bytes.now in
    let last = c.as_chunks.result.1.now in
    let b : ℕ = get_or last 0 0 in
    let all : c.loop-two.two-index ≡ length bytes / 2 = omega (arith, c.loop-two-test.false, c.loop-two.auto.two-index-end, c.as_chunks.ensures.front_len) in
    let small : b < 256 = omega arith in
    last_byte g c.loop-two.rest c.remainder_of_byte.result last bytes (omega (arith, c.in-len1.len_at_least, c.in-len1.len_below)) c.as_chunks.ensures.back
    (c.remainder_of_byte.ensures.value (bits_of b) (omega arith) (number-bits_of b small))
    ∙ ap (λ (n : ℕ). remainder g c.loop-two.rest (unpacked (drop (n * 2) bytes))) (sym all)
    ∙ c.loop-two.invariant.value
