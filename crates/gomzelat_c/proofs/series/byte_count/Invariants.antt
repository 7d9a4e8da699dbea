use Rattle.std.proofs.Common.{◌≡◌, ◌*◌, ◌≤◌, sum_by, take}
use Rattle.gomzelat_c.specs.Tests.{byte_count}
use Rattle.gomzelat_c.proofs.series.byte_count.Given as goal

abbrev pub invariant-loop-i : goal.invariant-loop-i
invariant-loop-i l = record {
  sum : l.bytes ≡ sum_by (λ s. byte_count s.m.g) (take l.i l.sends);
  few : l.bytes ≤ 125000 * l.i;
}
