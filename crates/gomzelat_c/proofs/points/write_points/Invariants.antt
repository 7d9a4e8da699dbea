use Rattle.std.proofs.Common.{◌≡◌, map, take, drop}
use Rattle.gomzelat_c.specs.PointsInC.{for_the_caller}
use Rattle.gomzelat_c.proofs.points.write_points.Given as goal

abbrev pub invariant-loop-s : goal.invariant-loop-s
invariant-loop-s l = record {
  written : take l.s l.buffer ≡ map for_the_caller (take l.s l.points);
  left : drop l.s l.buffer ≡ drop l.s l.initial.buffer;
}
