use Rattle.block_receive.proofs.ShapedBlocks.{from-received}
use Rattle.block_receive.proofs.laws.cells_of_receptions_are_tried_as_those.Goals as goal

pub returns : goal.returns
returns c = from-received
