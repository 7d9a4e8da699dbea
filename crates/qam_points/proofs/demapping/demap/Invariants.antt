use Rattle.std.proofs.Common.{◌≡◌, take}
use Rattle.qam_points.specs.Demapping.{demapped}
use Rattle.qam_points.proofs.demapping.demap.Given as goal

abbrev pub invariant-loop-point : goal.invariant-loop-point
invariant-loop-point l = l.softs.items ≡ demapped l.qm l.amp (take l.point-index l.points)
