use Rattle.std.proofs.Common.{◌++◌, ◌∷◌, [], List, length, ap, sym, ◌∙◌, zero-add, arith}
use Rattle.std.proofs.lemmas.List.FromFn.{map-range_with_len_more, length-map-range_with_len}
use Rattle.lte_bits.specs.declared.bit.Bit.{Bit}
use Rattle.encode_speed.specs.Sample.{sample_bit}
use Rattle.encode_speed.proofs.sample.sample.Goals as goal

pub loop-i-preserved : goal.loop-i-preserved
loop-i-preserved c =
    let i = c.loop-i.i in
    c.in_ok-push.ensures.items ∙ (ap (λ (b : Bit). c.loop-i.bits.items ++ b ∷ []) c.sample_bit.ensures
    ∙ (ap (λ (bits : List Bit). bits ++ sample_bit i ∷ []) c.loop-i.invariant ∙ sym (map-range_with_len_more sample_bit 0 i i (zero-add i))))

pub returns-clause-size : goal.returns-clause-size
returns-clause-size c =
    ap (λ (bits : List Bit). length bits) (c.from_vec.ensures ∙ c.loop-i.invariant) ∙ (length-map-range_with_len sample_bit 0 c.loop-i.i ∙ omega (arith, c.loop-i-test.false, c.loop-i.auto.i-end))
