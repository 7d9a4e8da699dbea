use Rattle.std.proofs.Common.{ℕ, ◌*◌, ◌≤◌, ◌<◌}
use Prim.Native.Nat.{◌∣◌}
use Rattle.qpp_table.proofs.windows.win.Given as goal

abbrev pub invariant-loop-count : goal.invariant-loop-count
invariant-loop-count l = record {
  positive : 1 ≤ l.best;
  divides : l.best ∣ l.k;
  wide : 8 * l.best ≤ l.k;
  within : l.best < l.count;
  greatest : (d : ℕ) → d ∣ l.k → 8 * d ≤ l.k → d < l.count → d ≤ l.best;
}
