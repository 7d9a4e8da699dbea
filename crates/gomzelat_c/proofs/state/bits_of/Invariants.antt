use Rattle.std.proofs.Common.{◌≡◌, map, take}
use Rattle.lte_bits.specs.Bits.{bit_of}
use Rattle.gomzelat_c.proofs.state.bits_of.Given as goal

abbrev pub invariant-loop-byte : goal.invariant-loop-byte
invariant-loop-byte l = l.bits.items ≡ map bit_of (take l.byte-index l.bytes)
