use Rattle.std.proofs.Common.{arith}
use Rattle.model_sender.proofs.CheckBitLaws.{multiple-remainder}
use Rattle.block_crc.proofs.generator.Generator.divides.Goals as goal

pub returns : goal.returns
returns c =
    let law = multiple-remainder c.args.self.now.coefficients c.args.bits.now c.args.self.now.monic in (
      λ none. law.1 (grind (arith, none)),
      λ multiple. grind (arith, law.0 multiple),
    )
