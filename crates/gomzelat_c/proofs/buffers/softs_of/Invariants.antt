use Rattle.std.proofs.Common.{◌≡◌, map, take}
use Rattle.lte_bits.specs.Softs.{clamped}
use Rattle.gomzelat_c.proofs.buffers.softs_of.Given as goal

abbrev pub invariant-loop-number : goal.invariant-loop-number
invariant-loop-number l = l.softs.items ≡ map (clamped 127) (take l.number-index l.numbers)
