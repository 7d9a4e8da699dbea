use Rattle.std.proofs.Common.{ap, ◌∙◌}
use Rattle.turbo_encode.specs.Fillers.{nulls_first}
use Rattle.turbo_encode.proofs.FilledCells.{nulls-filled}
use Rattle.turbo_encode.proofs.cells.write_filled.Goals as goal

pub returns : goal.returns
returns c = c.write_nulls.ensures ∙ ap (nulls_first c.args.fill) c.write_cells.ensures ∙ nulls-filled c.args.fill c.args.bits.now
