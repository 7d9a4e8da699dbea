use Rattle.std.proofs.Common.{ap, sym, ◌∙◌, subst, List, ℤ}
use Rattle.model_receiver.specs.Borders.{IsBorder}
use Rattle.window_rows.specs.Rows.{column}
use Rattle.window_decode.proofs.LaneNumbers.{passed}
use Rattle.window_decode.proofs.LaneKernel.{passed-border}
use Rattle.lock_step.proofs.StateRows.{eight-column}
use Rattle.lock_step.proofs.borders.lane_border.Goals as goal

pub from_numbers-requires : goal.from_numbers-requires
from_numbers-requires g c =
    subst (λ (b : List ℤ). IsBorder b) (sym (ap passed (eight-column c.args.m.now c.args.t c.told-m) ∙ passed-border (column c.args.t c.args.m.now) c.requires.border)) c.requires.border

pub returns : goal.returns
returns g c =
    c.from_numbers.ensures ∙ (ap passed (eight-column c.args.m.now c.args.t c.told-m) ∙ passed-border (column c.args.t c.args.m.now) c.requires.border)
