use Rattle.std.proofs.Common.{◌≡◌, ◌<◌, ◌*◌, ◌^◌, drop}
use Rattle.model_sender.specs.CheckBits.{remainder}
use Rattle.block_crc.proofs.generator.Generator.remainder.Given as goal

abbrev pub invariant-loop-sixteen : goal.invariant-loop-sixteen
invariant-loop-sixteen l = record {
  value : remainder l.self.coefficients l.rest (drop (l.sixteen-index * 16) l.bits) ≡ remainder l.self.coefficients l.start l.bits;
  small : l.rest < 2 ^ 24;
}
