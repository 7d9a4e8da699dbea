use Rattle.std.proofs.Common.{◌≡◌, ℕ, ◌+◌, ◌*◌, ◌<◌, length}
use Rattle.model_receiver.specs.Windows.{cell_at}
use Rattle.lane_banks.proofs.reference.by_place.row_of.Given as goal

abbrev pub invariant-loop-b : goal.invariant-loop-b
invariant-loop-b g l = record {
  long : length l.row ≡ g.row.N;
  done : (k : ℕ) → k < l.b → cell_at l.row k ≡ cell_at l.cells (k * l.width + l.r);
}
