use Rattle.std.proofs.Common.{◌≡◌}
use Rattle.gomzelat_c.specs.Stages.{spots_to}
use Rattle.gomzelat_c.proofs.numbers.spots_of.Given as goal

abbrev pub invariant-loop-n : goal.invariant-loop-n
invariant-loop-n l = l.spots.items ≡ spots_to l.k l.fill l.n
