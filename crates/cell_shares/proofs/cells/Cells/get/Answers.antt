use Rattle.cell_shares.proofs.Positions.{cell_at}
use Rattle.cell_shares.proofs.cells.Cells.get.Goals as goal

pub get-requires : goal.get-requires
get-requires g c = cell_at c.args.self.now c.args.n c.requires
