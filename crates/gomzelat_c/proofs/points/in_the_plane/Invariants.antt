use Rattle.std.proofs.Common.{◌≡◌, map, take}
use Rattle.gomzelat_c.specs.PointsInC.{in_the_plane}
use Rattle.gomzelat_c.proofs.points.in_the_plane.Given as goal

abbrev pub invariant-loop-point : goal.invariant-loop-point
invariant-loop-point l = l.own.items ≡ map in_the_plane (take l.point-index l.points)
