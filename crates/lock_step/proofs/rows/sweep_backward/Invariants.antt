use Rattle.std.proofs.Common.{◌≡◌, ℕ, ◌+◌, ◌-◌, ◌<◌, ◌≤◌, length}
use Rattle.lte_bits.specs.Softs.{IsWithin}
use Rattle.model_receiver.specs.Borders.{Border, at}
use Rattle.model_receiver.specs.Windows.{new_cell}
use Rattle.window_decode.specs.Metrics.{IsBackwardRow}
use Rattle.window_rows.specs.Rows.{row_at, column}
use Rattle.lock_step.specs.Lanes.{lane_window}
use Rattle.lock_step.specs.Vectors.{AreMetrics, lane_gain, AreForwardRows, cell_of}
use Rattle.lock_step.proofs.rows.sweep_backward.Given as goal

abbrev pub invariant-loop-i : goal.invariant-loop-i
invariant-loop-i g l =
    let n = length l.sys in
    record {
      shape : AreMetrics g.row.N l.m;
      row : (t : ℕ) → t < g.row.N → IsBackwardRow (column t l.initial.m) (lane_gain t l.sys l.par l.initial.cells) (n - l.i) l.i (column t l.m);
      long : length l.cells ≡ n;
      sums_long : length l.sums ≡ n;
      kept : (k : ℕ) → k + l.i < n → row_at l.cells k ≡ row_at l.initial.cells k;
      small : (k t : ℕ) → n ≤ k + l.i → k < n → t < g.row.N → IsWithin 32767 (at (row_at l.sums k) t);
      renewed : (t k : ℕ) (start : Border) → t < g.row.N → AreForwardRows t start l.sys l.par l.initial.cells l.rows n → n ≤ k + l.i → k < n
          → cell_of t l.cells l.sums k ≡ new_cell (lane_window t start (column t l.initial.m) l.sys l.par l.initial.cells) k;
    }
