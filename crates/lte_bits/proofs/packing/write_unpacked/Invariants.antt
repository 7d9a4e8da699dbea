use Rattle.std.proofs.Common.{◌*◌, ◌≡◌, take}
use Rattle.lte_bits.specs.Packing.{unpacked}
use Rattle.lte_bits.proofs.packing.write_unpacked.Given as goal

abbrev pub invariant-loop-i : goal.invariant-loop-i
invariant-loop-i l = take (8 * l.i) l.bits ≡ unpacked (take l.i l.bytes)
