use Rattle.lte_bits.specs.Packing.{unpacked}
use Rattle.block_crc.proofs.generator.Generator.check_bits_of_bytes.Goals as goal

pub returns : goal.returns
returns c = c.check_bits_after.ensures (unpacked c.args.bytes.now) c.remainder_of_bytes.ensures.value
