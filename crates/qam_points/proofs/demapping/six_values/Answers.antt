use Rattle.std.proofs.Common.{◌≡◌, ℤ, to_z, of_z, w32, ap, ◌∙◌, arith}
use Rattle.std.proofs.lemmas.Int.{ints}
use Rattle.qam_points.specs.Coordinate.{coordinate_value}
use Rattle.qam_points.specs.Demapping.{soft_value, soft_values}
use Rattle.qam_points.proofs.Coordinates.{first_value, second_value}
use Rattle.qam_points.proofs.demapping.six_values.Goals as goal

pub returns : goal.returns
unfolding soft_values
returns c =
    let y = c.args.y in
    let amp = c.args.amp in
    let i = c.rest_of_three-i.ensures in
    let q = c.rest_of_three-q.ensures in
    let ar = c.first_of_three.ensures.range in
    let a : c.soft.result ≡ soft_value 6 amp y 0 = first_value 3 amp y 0 c.soft.result c.first_of_three.result (to_z w32 (of_z w32 y.i))
    (omega arith) c.soft.ensures (omega (arith, ints)) (c.first_of_three.ensures.value) (omega (arith, ints)) in
    let br = c.first_of_three-2.ensures.range in
    let b : c.soft-2.result ≡ soft_value 6 amp y 1 = second_value 3 amp y 0 c.soft-2.result c.first_of_three-2.result (to_z w32 (of_z w32 y.q))
    (omega arith) c.soft-2.ensures (omega (arith, ints)) (c.first_of_three-2.ensures.value) (omega (arith, ints)) in
    let dr = c.first_of_two.ensures.range in
    let d : c.soft-3.result ≡ soft_value 6 amp y 2 = first_value 3 amp y 1 c.soft-3.result c.first_of_two.result (to_z w32 (of_z w32 y.i))
    (omega arith) c.soft-3.ensures (omega (arith, ints)) (c.first_of_two.ensures.value ∙ (ap (λ (z : ℤ). coordinate_value 2 amp z 0) (omega (arith, ints)) ∙ i.second)) (omega (arith, ints)) in
    let er = c.first_of_two-2.ensures.range in
    let e : c.soft-4.result ≡ soft_value 6 amp y 3 = second_value 3 amp y 1 c.soft-4.result c.first_of_two-2.result (to_z w32 (of_z w32 y.q))
    (omega arith) c.soft-4.ensures (omega (arith, ints)) (c.first_of_two-2.ensures.value ∙ (ap (λ (z : ℤ). coordinate_value 2 amp z 0) (omega (arith, ints)) ∙ q.second)) (omega (arith, ints)) in
    let fr = c.second_of_two.ensures.range in
    let f : c.soft-5.result ≡ soft_value 6 amp y 4 = first_value 3 amp y 2 c.soft-5.result c.second_of_two.result (to_z w32 (of_z w32 y.i))
    (omega arith) c.soft-5.ensures (omega (arith, ints)) (c.second_of_two.ensures.value ∙ (ap (λ (z : ℤ). coordinate_value 2 amp z 1) (omega (arith, ints)) ∙ i.third)) (omega (arith, ints)) in
    let gr = c.second_of_two-2.ensures.range in
    let g : c.soft-6.result ≡ soft_value 6 amp y 5 = second_value 3 amp y 2 c.soft-6.result c.second_of_two-2.result (to_z w32 (of_z w32 y.q))
    (omega arith) c.soft-6.ensures (omega (arith, ints)) (c.second_of_two-2.ensures.value ∙ (ap (λ (z : ℤ). coordinate_value 2 amp z 1) (omega (arith, ints)) ∙ q.third)) (omega (arith, ints)) in
    cc
