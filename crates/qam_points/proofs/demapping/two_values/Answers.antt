use Rattle.std.proofs.Common.{◌≡◌, refl, sym, arith}
use Rattle.std.proofs.lemmas.Int.{ints}
use Rattle.qam_points.specs.Demapping.{soft_value, soft_values}
use Rattle.qam_points.proofs.Coordinates.{first_value, second_value}
use Rattle.qam_points.proofs.Signs.{value_of_one}
use Rattle.qam_points.proofs.demapping.two_values.Goals as goal

pub returns : goal.returns
unfolding soft_values
returns c = λ amp some.
    let y = c.args.y in
    let a : c.soft.result ≡ soft_value 2 amp y 0 = first_value 1 amp y 0 c.soft.result y.i y.i (omega arith) c.soft.ensures (omega (arith, ints)) (sym (value_of_one amp y.i some)) refl in
    let b : c.soft-2.result ≡ soft_value 2 amp y 1 = second_value 1 amp y 0 c.soft-2.result y.q y.q (omega arith) c.soft-2.ensures (omega (arith, ints)) (sym (value_of_one amp y.q some)) refl in
    cc
