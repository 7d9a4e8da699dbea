use Rattle.std.proofs.Common.{pos, arith}
use Rattle.std.specs.Prelude.{slice_index_or}
use Rattle.lte_bits.specs.declared.bit.Bit.TheVariants.{Zero}
use Rattle.soft_channel.specs.Noise.{received}
use Rattle.soft_channel.proofs.Pieces.{front_filled}
use Rattle.soft_channel.proofs.chunks.received_values.Goals as goal

pub returns : goal.returns
returns c =
    front_filled (λ k. received c.args.amp (slice_index_or c.args.bits.now k Zero) (slice_index_or c.args.terms.now k (pos 0))) c.loop-i.values _ (pos 0)
    (omega (arith, c.loop-i.invariant.0, c.requires.few))
    (λ k h. c.loop-i.invariant.1 k (omega arith))
