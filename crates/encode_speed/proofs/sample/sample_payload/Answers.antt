use Rattle.std.proofs.Common.{ℕ, List, length, ap, ◌∙◌, arith}
use Rattle.std.proofs.lemmas.List.FromFn.{length-map-range_with_len}
use Rattle.lte_bits.proofs.Pushes.{pushed_next}
use Rattle.encode_speed.specs.Sample.{sample_byte}
use Rattle.encode_speed.proofs.sample.sample_payload.Goals as goal

pub loop-i-preserved : goal.loop-i-preserved
loop-i-preserved c =
    pushed_next sample_byte c.loop-i.bytes.items c.push.new.self.items c.loop-i.i c.sample_byte.result c.loop-i.invariant c.in_ok-push.ensures.items c.sample_byte.ensures

pub returns-clause-size : goal.returns-clause-size
returns-clause-size c =
    ap (λ (bytes : List ℕ). length bytes) c.loop-i.invariant ∙ (length-map-range_with_len sample_byte 0 c.loop-i.i ∙ omega (arith, c.loop-i-test.false, c.loop-i.auto.i-end))
