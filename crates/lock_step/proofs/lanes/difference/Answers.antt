use Rattle.std.proofs.Common.{◌-ℤ◌}
use Rattle.window_decode.proofs.LaneSteps.{differences_fit, differences_stored}
use Rattle.lock_step.proofs.Vectors.{each_difference, known-lanes}
use Rattle.lock_step.proofs.lanes.difference.Goals as goal

pub overflow_sub-result : goal.overflow_sub-result
overflow_sub-result g c = differences_fit c.args.a c.args.b (each_difference g.row.N c.args.a c.args.b c.requires.first c.requires.second c.requires.fits)

pub returns : goal.returns
returns g c =
    known-lanes g.row.N 32767 ◌-ℤ◌ c.args.a c.args.b _ c.requires.first.long c.requires.second.long
    (differences_stored c.args.a c.args.b (each_difference g.row.N c.args.a c.args.b c.requires.first c.requires.second c.requires.fits)) (λ t lt. c.requires.fits t)
