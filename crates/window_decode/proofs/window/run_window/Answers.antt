use Rattle.std.proofs.Common.{◌∙◌}
use Rattle.window_decode.proofs.LaneKernel.{passed-border, border-still}
use Rattle.window_decode.proofs.window.run_window.Goals as goal

pub from_lanes-requires : goal.from_lanes-requires
from_lanes-requires g c = border-still c.sweep.result.0 c.sweep.ensures.borders.0

pub from_lanes-requires-2 : goal.from_lanes-requires-2
from_lanes-requires-2 g c = border-still c.sweep.result.1 c.sweep.ensures.borders.1

pub returns-clause-forward : goal.returns-clause-forward
returns-clause-forward g c = c.from_lanes.ensures ∙ (passed-border c.sweep.result.0 c.sweep.ensures.borders.0 ∙ c.sweep.ensures.forward)

pub returns-clause-backward : goal.returns-clause-backward
returns-clause-backward g c = c.from_lanes-2.ensures ∙ (passed-border c.sweep.result.1 c.sweep.ensures.borders.1 ∙ c.sweep.ensures.backward)
