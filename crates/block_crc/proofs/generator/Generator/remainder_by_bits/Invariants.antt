use Rattle.std.proofs.Common.{◌≡◌, ◌<◌, ◌^◌, drop}
use Rattle.model_sender.specs.CheckBits.{remainder}
use Rattle.block_crc.proofs.generator.Generator.remainder_by_bits.Given as goal

abbrev pub invariant-loop-bit : goal.invariant-loop-bit
invariant-loop-bit l = record {
  value : remainder l.self.coefficients l.rest (drop l.bit-index l.bits) ≡ remainder l.self.coefficients l.start l.bits;
  small : l.rest < 2 ^ 24;
}
