use Rattle.std.proofs.Common.{◌≡◌, ℕ, ◌<◌, pos, int_lt, length}
use Rattle.lte_bits.specs.Softs.{IsWithin}
use Rattle.model_receiver.specs.Borders.{at}
use Rattle.model_receiver.specs.Windows.{cell_at}
use Rattle.lane_banks.proofs.cells.split.Given as goal

abbrev pub invariant-loop-b : goal.invariant-loop-b
invariant-loop-b g l = record {
  values_long : length l.values ≡ g.row.N;
  sums_long : length l.sums ≡ g.row.N;
  value : (k : ℕ) → k < l.b → at l.values k ≡ (cell_at l.row k).value;
  sum : (k : ℕ) → k < l.b → int_lt (at l.sums k) (pos 0) ≡ (cell_at l.row k).one;
  within : (k : ℕ) → k < l.b → IsWithin 511 (at l.values k);
}
