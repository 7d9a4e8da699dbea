use Rattle.std.proofs.Common.{◌≡◌, map, take}
use Rattle.gomzelat_c.specs.Stages.{cell_number}
use Rattle.gomzelat_c.proofs.numbers.numbers_of.Given as goal

abbrev pub invariant-loop-cell : goal.invariant-loop-cell
invariant-loop-cell l = l.numbers.items ≡ map cell_number (take l.cell-index l.cells)
