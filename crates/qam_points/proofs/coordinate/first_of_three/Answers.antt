use Rattle.std.proofs.Common.{sym, ◌∙◌, arith}
use Rattle.std.proofs.lemmas.Int.{ints}
use Rattle.qam_points.proofs.Signs.{within_is}
use Rattle.qam_points.proofs.SignsOfThree.{sign_of_three_by, value_of_sign_of_three}
use Rattle.qam_points.proofs.coordinate.first_of_three.Goals as goal

pub returns-clause-value : goal.returns-clause-value
returns-clause-value c =
    let amp = c.args.amp in
    let t = c.args.t in
    let n = c.from-amp.result in
    let e = c.from-amp.ensures in
    let u = within_is c.within.result t _ 2 n amp c.within.ensures.value (omega (arith, ints)) e in
    let v = within_is c.within-2.result t _ 4 n amp c.within-2.ensures.value (omega (arith, ints)) e in
    let w = within_is c.within-3.result t _ 6 n amp c.within-3.ensures.value (omega (arith, ints)) e in
    (omega (arith, ints)) ∙ (sign_of_three_by amp t c.within.result c.within-2.result c.within-3.result u v w ∙ sym (value_of_sign_of_three amp t c.requires.amp.0))

pub overflow_sub-result-3 : goal.overflow_sub-result-3
overflow_sub-result-3 c =
    let u = c.within.ensures.range in
    let v = c.within-2.ensures.range in
    let w = c.within-3.ensures.range in
    omega (arith, ints)

pub returns-clause-range : goal.returns-clause-range
returns-clause-range c =
    let u = c.within.ensures.range in
    let v = c.within-2.ensures.range in
    let w = c.within-3.ensures.range in
    (omega (arith, ints), omega (arith, ints))
