use Rattle.std.proofs.Common.{◌+ℤ◌, ◌∙◌}
use Rattle.window_decode.proofs.LaneSteps.{IsSum, each_lane, sums_fit, sums_stored, zip2-border}
use Rattle.window_decode.proofs.lanes.sum.Goals as goal

pub overflow_add-result : goal.overflow_add-result
overflow_add-result c =
    sums_fit c.args.a c.args.b (each_lane IsSum c.args.a c.args.b c.requires.first.eight c.requires.second.eight
    (λ s. record { first = c.requires.first.bounded s; second = c.requires.second.bounded s; sum = c.requires.fits s }))

pub returns : goal.returns
returns c =
    sums_stored c.args.a c.args.b (each_lane IsSum c.args.a c.args.b c.requires.first.eight c.requires.second.eight
    (λ s. record { first = c.requires.first.bounded s; second = c.requires.second.bounded s; sum = c.requires.fits s }))
    ∙ zip2-border ◌+ℤ◌ c.args.a c.args.b c.requires.first.eight c.requires.second.eight
