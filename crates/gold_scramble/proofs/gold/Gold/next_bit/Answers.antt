use Rattle.std.proofs.Common.{ap, sym, ◌∙◌, arith}
use Rattle.lte_bits.specs.Bits.{bit_of}
use Rattle.gold_scramble.specs.Places.{places}
use Rattle.gold_scramble.specs.Registers.{coming}
use Rattle.gold_scramble.proofs.Numbers.{bit_of-number, one_from_number}
use Rattle.gold_scramble.proofs.gold.Gold.next_bit.Goals as goal

pub returns-in-0-clause-bit : goal.returns-in-0-clause-bit
unfolding places
returns-in-0-clause-bit c =
    ap bit_of (sym c.in-0.is ∙ c.next_bits.ensures.bits) ∙ bit_of-number (coming c.args.self.now 0)

pub returns-in_default-clause-bit : goal.returns-in_default-clause-bit
unfolding places
returns-in_default-clause-bit c =
    one_from_number (coming c.args.self.now 0) c.next_bits.result c.next_bits.ensures.bits (omega arith)
