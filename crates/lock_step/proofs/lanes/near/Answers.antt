use Rattle.lte_bits.specs.Softs.{clamped}
use Rattle.lock_step.proofs.Vectors.{map-lanes}
use Rattle.lock_step.proofs.Quarters.{near_stored, near-within}
use Rattle.model_receiver.specs.Borders.{at}
use Rattle.lock_step.proofs.lanes.near.Goals as goal

pub returns : goal.returns
returns g c =
    map-lanes (clamped 682) g.row.N 682 c.args.a _ (near_stored g.row.N c.args.a c.requires.long c.requires.bounded) c.requires.long (λ t. near-within (at c.args.a t))
