use Rattle.std.proofs.Common.{◌∙◌}
use Rattle.window_decode.proofs.LaneKernel.{passed-border}
use Rattle.window_decode.proofs.border.Border.lanes.Goals as goal

pub returns-clause-value : goal.returns-clause-value
returns-clause-value c = passed-border c.self.inside.numbers c.self.invariant ∙ c.self.view_is
