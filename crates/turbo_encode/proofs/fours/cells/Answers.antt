use Rattle.turbo_encode.proofs.FourSteps.{cells-entry}
use Rattle.turbo_encode.proofs.fours.cells.Goals as goal

pub returns : goal.returns
returns c = λ bits long is. cells-entry bits c.args.n long is
