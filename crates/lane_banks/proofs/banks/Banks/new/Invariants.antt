use Rattle.std.proofs.Common.{◌≡◌, ℕ, ◌+◌, ◌*◌, ◌<◌, length}
use Rattle.model_receiver.specs.Windows.{cell_at}
use Rattle.lane_banks.proofs.banks.Banks.new.Given as goal

abbrev pub invariant-loop-r : goal.invariant-loop-r
invariant-loop-r g l = record {
  long : length l.banks ≡ g.row.N * l.width;
  done : (s b : ℕ) → s < l.r → b < g.row.N → cell_at l.banks (b * l.width + s) ≡ cell_at l.fn.cells (b * l.width + s);
}
