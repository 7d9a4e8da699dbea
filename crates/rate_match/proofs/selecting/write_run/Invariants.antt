use Rattle.std.proofs.Common.{◌≡◌, ℕ, ◌<◌, Some, get_or}
use Rattle.lte_bits.specs.declared.bit.Bit.TheVariants.{Zero}
use Rattle.model_sender.specs.CircularBuffer.{cell_at}
use Rattle.model_sender.specs.Selection.{bit_of_cell}
use Rattle.rate_match.specs.Runs.{bit_down}
use Rattle.rate_match.proofs.selecting.write_run.Given as goal

abbrev pub invariant-loop-i : goal.invariant-loop-i
invariant-loop-i l = (k : ℕ) → k < l.i → get_or l.out k Zero ≡ bit_of_cell (cell_at l.streams (Some (bit_down l.run.first k)))
