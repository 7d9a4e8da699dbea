use Rattle.std.proofs.Common.{◌≡◌, ◌<◌, ◌*◌, ◌^◌, drop}
use Rattle.lte_bits.specs.Packing.{unpacked}
use Rattle.model_sender.specs.CheckBits.{remainder}
use Rattle.block_crc.proofs.generator.Generator.remainder_of_bytes.Given as goal

abbrev pub invariant-loop-two : goal.invariant-loop-two
invariant-loop-two l = record {
  value : remainder l.self.coefficients l.rest (unpacked (drop (l.two-index * 2) l.bytes)) ≡ remainder l.self.coefficients 0 (unpacked l.bytes);
  small : l.rest < 2 ^ 24;
}
