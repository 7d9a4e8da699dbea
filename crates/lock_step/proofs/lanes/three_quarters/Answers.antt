use Rattle.std.proofs.Common.{rules}
use Rattle.std.proofs.lemmas.Simd.{Each2-splat, Each1-all}
use Rattle.model_receiver.specs.Borders.{at}
use Rattle.lock_step.proofs.Vectors.{map-lanes}
use Rattle.lock_step.proofs.Quarters.{three_quarters, thrice-fits, quarters_stored, quarters-within}
use Rattle.lock_step.proofs.lanes.three_quarters.Goals as goal

pub overflow_mul-result : goal.overflow_mul-result
overflow_mul-result g c = thrice-fits g.row.N c.args.a c.requires.long c.requires.bounded

pub nonzero_div-result : goal.nonzero_div-result
nonzero_div-result g c = Each2-splat _ _ _ _ (Each1-all _ (λ a. search rules) _)

pub returns : goal.returns
returns g c =
    map-lanes three_quarters g.row.N 511 c.args.a _ (quarters_stored g.row.N c.args.a c.requires.long c.requires.bounded) c.requires.long
    (λ t. quarters-within (at c.args.a t) (c.requires.bounded t))
