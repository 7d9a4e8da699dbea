use Rattle.std.proofs.Common.{sym, ◌∙◌, arith}
use Rattle.std.proofs.lemmas.Int.{ints}
use Rattle.qam_points.proofs.Signs.{sign_of_two_by, value_of_sign_of_two, within_is}
use Rattle.qam_points.proofs.coordinate.first_of_two.Goals as goal

pub returns-clause-value : goal.returns-clause-value
returns-clause-value c =
    let amp = c.args.amp in
    let t = c.args.t in
    let w = within_is c.within.result t _ 2 c.from.result amp c.within.ensures.value (omega (arith, ints)) c.from.ensures in
    let r = c.within.ensures.range in
    (omega (arith, ints)) ∙ (sign_of_two_by amp t c.within.result w ∙ sym (value_of_sign_of_two amp t c.requires.amp.0))
