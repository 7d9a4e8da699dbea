use Rattle.segmentation.proofs.CarriedWhole.{whole-blocks}
use Rattle.segmentation.proofs.CutBlocks.{blocks-shape}
use Rattle.segmentation.proofs.round_trip.blocks_carry_the_payload.Goals as goal

pub returns-clause-shape : goal.returns-clause-shape
returns-clause-shape c = blocks-shape

pub returns-clause-whole : goal.returns-clause-whole
returns-clause-whole c = whole-blocks
