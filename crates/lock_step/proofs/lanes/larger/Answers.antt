use Rattle.std.specs.Int.{int_max}
use Rattle.window_decode.proofs.LaneSteps.{larger_stored}
use Rattle.lock_step.proofs.Vectors.{each_stored, greater-within, known-lanes}
use Rattle.lock_step.proofs.lanes.larger.Goals as goal

pub returns : goal.returns
returns g c =
    known-lanes g.row.N 32767 int_max c.args.a c.args.b _ c.requires.first.long c.requires.second.long
    (larger_stored c.args.a c.args.b (each_stored g.row.N c.args.a c.args.b c.requires.first c.requires.second))
    (λ t lt. greater-within 32767 _ _ (c.requires.first.bounded t) (c.requires.second.bounded t))
