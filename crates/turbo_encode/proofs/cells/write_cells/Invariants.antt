use Rattle.std.proofs.Common.{◌≡◌, ℕ, ◌<◌, get_or}
use Rattle.lte_bits.specs.declared.bit.Cell.TheVariants.{Null}
use Rattle.model_sender.specs.CodedStreams.{cells_of}
use Rattle.turbo_encode.proofs.cells.write_cells.Given as goal

abbrev pub invariant-loop-i : goal.invariant-loop-i
invariant-loop-i l = (k : ℕ) → k < l.i → get_or l.cells k Null ≡ get_or (cells_of l.bits) k Null
