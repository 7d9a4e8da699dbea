use Rattle.std.proofs.Common.{◌≡◌, ℕ, ◌<◌, get_or}
use Rattle.lte_bits.specs.declared.bit.Bit.TheVariants.{Zero}
use Rattle.model_receiver.specs.Decoding.{decided_bits}
use Rattle.half_iteration.proofs.bits.decide.Given as goal

abbrev pub invariant-loop-i : goal.invariant-loop-i
invariant-loop-i l = (k : ℕ) → k < l.i → get_or l.bits k Zero ≡ get_or (decided_bits l.fill l.cells) k Zero
