use Rattle.std.proofs.Common.{ℤ, ap, sym, ◌∙◌, arith}
use Rattle.std.proofs.lemmas.Int.{ints}
use Rattle.qam_points.specs.Coordinate.{coordinate_value}
use Rattle.qam_points.proofs.Folding.{value_of_three}
use Rattle.qam_points.proofs.coordinate.rest_of_three.Goals as goal

pub returns-clause-second : goal.returns-clause-second
returns-clause-second c =
    ap (λ (z : ℤ). coordinate_value 2 c.args.amp z 0) (omega (arith, ints)) ∙ sym (value_of_three c.args.amp c.args.t 0)

pub returns-clause-third : goal.returns-clause-third
returns-clause-third c =
    ap (λ (z : ℤ). coordinate_value 2 c.args.amp z 1) (omega (arith, ints)) ∙ sym (value_of_three c.args.amp c.args.t 1)
