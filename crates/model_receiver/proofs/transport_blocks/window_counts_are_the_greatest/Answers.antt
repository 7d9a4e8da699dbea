use Rattle.model_receiver.proofs.WindowCounts.{count-is}
use Rattle.model_receiver.proofs.transport_blocks.window_counts_are_the_greatest.Goals as goal

pub returns : goal.returns
returns c = count-is
