-- How many bits, soft values and points there are.
use Rattle.std.proofs.Common.{◌≡◌, ℕ, ◌*◌, ◌≤◌, ℤ, List, [], ◌∷◌, length, take, map, Ok, Err, ap, ◌∙◌, arith, length-append}
use Rattle.std.specs.Prelude.{IfOk}
use Rattle.std.specs.declared.result.Result.{Result}
use Rattle.std.specs.List.{range_with_len}
use Rattle.std.proofs.lemmas.List.{length-map, length-take-le}
use Rattle.std.proofs.lemmas.List.FromFn.{length-map-range_with_len}
use Rattle.lte_bits.specs.Packing.{unpacked}
use Rattle.lte_bits.proofs.Unpacking.{length-unpacked}
use Rattle.qam_points.specs.Demapping.{demapped, soft_value, soft_values}
use Rattle.qam_points.specs.declared.point.Point as plane
use Rattle.gomzelat_c.specs.PointsInC.{in_the_plane}
use Rattle.gomzelat_c.specs.Tests.{byte_count}
use Rattle.gomzelat_c.specs.declared.points.Point.{Point}

-- the first so many bits of enough bytes
pub length-first : (count : ℕ) (bytes : List ℕ) → byte_count count ≤ length bytes → length (take count (unpacked bytes)) ≡ count
length-first count bytes enough = length-take-le count (unpacked bytes) (omega (arith, length-unpacked bytes, enough))

-- the soft values of points of qm bits
pub length-demapped : (qm amp : ℕ) (ys : List plane.Point) → length (demapped qm amp ys) ≡ qm * length ys
unfolding soft_values
length-demapped qm amp [] = omega arith
length-demapped qm amp (y ∷ ys) =
    length-append (map (soft_value qm amp y) (range_with_len 0 qm)) (demapped qm amp ys)
    ∙ (let here = length-map-range_with_len (soft_value qm amp y) 0 qm in let rest = length-demapped qm amp ys in omega (arith, here, rest))

pub demapped_long : {E : Type 0} (r : Result (List ℤ) E) (qm amp : ℕ) (own : List plane.Point) (points : List Point) → own ≡ map in_the_plane points →
    IfOk r (λ softs. softs ≡ demapped qm amp own) → IfOk r (λ softs. length softs ≡ qm * length points)
demapped_long (Ok softs) qm amp own points same is =
    ap length is ∙ length-demapped qm amp own ∙ ap (λ n. qm * n) (ap length same ∙ length-map points in_the_plane)
demapped_long (Err e) qm amp own points same is = is
