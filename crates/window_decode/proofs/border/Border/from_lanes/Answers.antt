use Rattle.window_decode.proofs.LaneKernel.{passed-border, border-still}
use Rattle.window_decode.proofs.border.Border.from_lanes.Goals as goal

pub returns : goal.returns
returns c = passed-border c.args.numbers c.requires

pub invariant_of-result : goal.invariant_of-result
invariant_of-result c = border-still c.args.numbers c.requires
