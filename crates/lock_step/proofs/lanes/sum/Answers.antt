use Rattle.std.proofs.Common.{◌+ℤ◌}
use Rattle.window_decode.proofs.LaneSteps.{sums_fit, sums_stored}
use Rattle.lock_step.proofs.Vectors.{each_sum, known-lanes}
use Rattle.lock_step.proofs.lanes.sum.Goals as goal

pub overflow_add-result : goal.overflow_add-result
overflow_add-result g c = sums_fit c.args.a c.args.b (each_sum g.row.N c.args.a c.args.b c.requires.first c.requires.second c.requires.fits)

pub returns : goal.returns
returns g c =
    known-lanes g.row.N 32767 ◌+ℤ◌ c.args.a c.args.b _ c.requires.first.long c.requires.second.long
    (sums_stored c.args.a c.args.b (each_sum g.row.N c.args.a c.args.b c.requires.first c.requires.second c.requires.fits)) (λ t lt. c.requires.fits t)
