use Rattle.std.proofs.Common.{◌≡◌, ℕ, ◌<◌, length}
use Rattle.window_decode.specs.Metrics.{IsForwardRow}
use Rattle.window_rows.specs.Rows.{column}
use Rattle.lock_step.specs.Vectors.{AreMetrics, lane_gain, metrics_at, AreForwardRows}
use Rattle.lock_step.proofs.rows.sweep_forward.Given as goal

abbrev pub invariant-loop-j : goal.invariant-loop-j
invariant-loop-j g l = record {
  shape : AreMetrics g.row.N l.m;
  row : (t : ℕ) → t < g.row.N → IsForwardRow (column t l.initial.m) (lane_gain t l.sys l.par l.cells) l.j (column t l.m);
  shapes : (i : ℕ) → i < l.j → AreMetrics g.row.N (metrics_at l.rows i);
  rows : (t : ℕ) → t < g.row.N → AreForwardRows t (column t l.initial.m) l.sys l.par l.cells l.rows l.j;
  room : length l.rows ≡ length l.initial.rows;
}
