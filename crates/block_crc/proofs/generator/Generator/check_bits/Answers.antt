use Rattle.std.proofs.Common.{List, sym, subst}
use Rattle.lte_bits.specs.declared.bit.Bit.{Bit}
use Rattle.model_sender.specs.CheckBits.{IsCrc}
use Rattle.model_sender.proofs.CheckBitLaws.{crc-is}
use Rattle.block_crc.proofs.generator.Generator.check_bits.Goals as goal

pub returns-clause-value : goal.returns-clause-value
returns-clause-value c = c.check_bits_after.ensures c.args.bits.now c.remainder.ensures.value

pub returns-clause-is_crc : goal.returns-clause-is_crc
returns-clause-is_crc c =
    let g = c.args.self.now.coefficients in
    let bits = c.args.bits.now in
    subst (λ (p : List Bit). IsCrc g bits p) (sym (returns-clause-value c)) (crc-is g bits c.args.self.now.monic)
