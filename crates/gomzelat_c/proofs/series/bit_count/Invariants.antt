use Rattle.std.proofs.Common.{◌≡◌, ◌*◌, ◌≤◌, sum_by, take}
use Rattle.gomzelat_c.proofs.series.bit_count.Given as goal

abbrev pub invariant-loop-i : goal.invariant-loop-i
invariant-loop-i l = record {
  sum : l.bits ≡ sum_by (λ s. s.m.g) (take l.i l.sends);
  few : l.bits ≤ 1000000 * l.i;
}
