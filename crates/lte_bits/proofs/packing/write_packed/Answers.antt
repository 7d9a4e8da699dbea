use Rattle.std.proofs.Common.{◌≡◌, ◌≢◌, ◌+◌, ◌*◌, ◌/◌, ◌<◌, ℕ, length, drop, set, get_or, get_or-set_other, get_or-set_same, below_more, sym, ap, ◌∙◌, inl, inr, arith}
use Rattle.std.proofs.lemmas.Bool.{cases_lt}
use Rattle.std.proofs.lemmas.List.{length-set}
use Rattle.std.proofs.lemmas.List.FromFn.{fill_by_all}
use Rattle.lte_bits.specs.Bits.{number}
use Rattle.lte_bits.specs.Packing.{byte_at}
use Rattle.lte_bits.proofs.PackedBytes.{whole-byte, short-byte}
use Rattle.lte_bits.proofs.packing.write_packed.Goals as goal

pub loop-i-preserved : goal.loop-i-preserved
loop-i-preserved c =
    let bits = c.args.bits.now in
    let i : ℕ = c.loop-i.i in
    let n : ℕ = length bits / 8 in
    let below : i < n = omega (arith, c.loop-i-test.true, c.as_chunks.ensures.front_len) in
    let fits : i < length c.loop-i.bytes = omega (arith, below, c.loop-i.auto.bytes, c.requires) in
    below_more _ _
    (λ k h. let ne : k ≢ i = omega (arith, h) in rw get_or-set_other (c.loop-i.invariant k h))
    (rw get_or-set_same (whole-byte bits _ c.as_chunks.result.0.now n i c.byte_of.result (omega arith) below c.as_chunks.ensures.front c.byte_of.ensures))

pub returns-then-not-is_empty : goal.returns-then-not-is_empty
returns-then-not-is_empty c =
    let bits = c.args.bits.now in
    let n : ℕ = length c.as_chunks.result.0.now in
    let byte : ℕ = c.byte_of-then-not-is_empty.result in
    let many : n ≡ length bits / 8 = c.as_chunks.ensures.front_len in
    let some : 0 < length c.as_chunks.result.1.now = grind (arith, c.if-not-is_empty.true, c.is_empty.ensures) in
    let count : (length bits + 7) / 8 ≡ n + 1 = omega (arith, many, some, c.as_chunks.ensures.back_len) in
    let fits : n < length c.loop-i.bytes = omega (arith, c.loop-i.auto.bytes, c.requires, count) in
    fill_by_all (byte_at bits) (set c.loop-i.bytes n byte) ((length bits + 7) / 8) 0 (length-set c.loop-i.bytes n byte ∙ omega (arith, c.loop-i.auto.bytes, c.requires))
    (λ k h. elim (cases_lt k n) [
      | inl below ↦ let ne : k ≢ n = omega (arith, below) in rw get_or-set_other (c.loop-i.invariant k (omega (arith, c.loop-i-test.false, below)))
      | inr above ↦
          let e : k ≡ n = omega (arith, above, h, count) in
          let last = short-byte bits c.as_chunks.result.1.now n byte many (c.as_chunks.ensures.back ∙ ap (λ m. drop (m * 8) bits) (sym many))
          (c.byte_of-then-not-is_empty.ensures ∙ ap number c.filled_up.ensures) in
          ap (λ j. get_or (set c.loop-i.bytes n byte) j 0) e ∙ get_or-set_same c.loop-i.bytes n byte 0 fits ∙ last ∙ ap (byte_at bits) (sym e)
    ])

pub returns-else-not-is_empty : goal.returns-else-not-is_empty
returns-else-not-is_empty c =
    let bits = c.args.bits.now in
    let n : ℕ = length c.as_chunks.result.0.now in
    let none : length c.as_chunks.result.1.now ≡ 0 = grind (arith, c.if-not-is_empty.false, c.is_empty.ensures) in
    let count : (length bits + 7) / 8 ≡ n = omega (arith, c.as_chunks.ensures.front_len, none, c.as_chunks.ensures.back_len) in
    fill_by_all (byte_at bits) c.loop-i.bytes ((length bits + 7) / 8) 0 (omega (arith, c.loop-i.auto.bytes, c.requires))
    (λ k h. c.loop-i.invariant k (omega (arith, c.loop-i-test.false, count, h)))
