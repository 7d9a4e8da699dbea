use Rattle.std.proofs.Common.{ap, ◌∙◌}
use Rattle.std.specs.Prelude.{replicate}
use Rattle.lte_bits.specs.declared.bit.Bit.TheVariants.{Zero}
use Rattle.model_sender.specs.CheckBits.{remainder}
use Rattle.model_sender.proofs.CheckBitLaws.{crc_by_number}
use Rattle.block_crc.proofs.generator.Generator.check_bits_after.Goals as goal

pub returns : goal.returns
returns c bits is =
    let g = c.args.self.now in
    crc_by_number g.coefficients bits c.digits.result g.monic c.digits.ensures.width
    (c.digits.ensures.value ∙ c.remainder.ensures.value ∙ ap (λ r. remainder g.coefficients r (replicate 24 Zero)) is)
