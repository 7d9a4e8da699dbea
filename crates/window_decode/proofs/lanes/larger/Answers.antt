use Rattle.std.proofs.Common.{◌∙◌}
use Rattle.std.specs.Int.{int_max}
use Rattle.window_decode.proofs.LaneSteps.{AreStored, each_lane, larger_stored, zip2-border}
use Rattle.window_decode.proofs.lanes.larger.Goals as goal

pub returns : goal.returns
returns c =
    larger_stored c.args.a c.args.b (each_lane AreStored c.args.a c.args.b c.requires.first.eight c.requires.second.eight
    (λ s. record { first = c.requires.first.bounded s; second = c.requires.second.bounded s }))
    ∙ zip2-border int_max c.args.a c.args.b c.requires.first.eight c.requires.second.eight
