use Rattle.std.proofs.Common.{◌≡◌, ℕ, ◌<◌, length}
use Rattle.model_receiver.specs.Borders.{at}
use Rattle.model_receiver.specs.Windows.{cell_at}
use Rattle.lane_banks.specs.Banks.{cell_of}
use Rattle.lane_banks.proofs.banks.Banks.row.Given as goal

abbrev pub invariant-loop-b : goal.invariant-loop-b
invariant-loop-b g l = record {
  long : length l.row ≡ g.row.N;
  done : (k : ℕ) → k < l.b → cell_at l.row k ≡ cell_of (at l.values k) (at l.sums k);
}
