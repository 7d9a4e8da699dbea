use Rattle.std.proofs.Common.{◌*◌, sym, ◌∙◌, arith}
use Rattle.std.proofs.lemmas.Int.{ints}
use Rattle.qam_points.proofs.Folding.{below_middle, value_of_two}
use Rattle.qam_points.proofs.Signs.{value_of_one}
use Rattle.qam_points.proofs.coordinate.second_of_two.Goals as goal

pub returns-clause-value : goal.returns-clause-value
returns-clause-value c =
    let e = value_of_two c.args.amp c.args.t 0 in
    let f = value_of_one c.args.amp (below_middle (2 * c.args.amp) c.args.t) c.requires.amp.0 in
    (omega (arith, ints)) ∙ sym (e ∙ f)
