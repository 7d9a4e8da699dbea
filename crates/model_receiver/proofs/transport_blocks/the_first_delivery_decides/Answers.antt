use Rattle.model_receiver.proofs.Tries.{first-delivers}
use Rattle.model_receiver.proofs.transport_blocks.the_first_delivery_decides.Goals as goal

pub returns : goal.returns
returns c = first-delivers
