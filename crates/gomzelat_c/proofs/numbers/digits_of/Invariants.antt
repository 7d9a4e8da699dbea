use Rattle.std.proofs.Common.{◌≡◌, map, take}
use Rattle.lte_bits.specs.Bits.{digit}
use Rattle.gomzelat_c.proofs.numbers.digits_of.Given as goal

abbrev pub invariant-loop-bit : goal.invariant-loop-bit
invariant-loop-bit l = l.digits.items ≡ map digit (take l.bit-index l.bits)
