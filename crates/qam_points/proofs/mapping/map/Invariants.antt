use Rattle.std.proofs.Common.{◌≡◌, map}
use Rattle.std.specs.List.{range_with_len}
use Rattle.qam_points.specs.Constellation.{point, symbol}
use Rattle.qam_points.proofs.mapping.map.Given as goal

abbrev pub invariant-loop-s : goal.invariant-loop-s
invariant-loop-s l = l.points.items ≡ map (λ s. point (symbol l.qm l.bits s)) (range_with_len 0 l.s)
