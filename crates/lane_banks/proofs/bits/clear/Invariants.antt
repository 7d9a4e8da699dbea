use Rattle.std.proofs.Common.{◌≡◌, ℕ, get_or}
use Rattle.std.specs.Prelude.{nat_lt, if◌then◌else◌}
use Rattle.lte_bits.specs.declared.bit.Bit.TheVariants.{Zero}
use Rattle.lane_banks.proofs.bits.clear.Given as goal

abbrev pub invariant-loop-i : goal.invariant-loop-i
invariant-loop-i l = (k : ℕ) → get_or l.bits k Zero ≡ if nat_lt k l.i then Zero else get_or l.fn.bits k Zero
