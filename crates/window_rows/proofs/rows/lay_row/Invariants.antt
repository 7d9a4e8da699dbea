use Rattle.std.proofs.Common.{◌≡◌, ℕ, ◌+◌, ◌*◌, ◌<◌, length}
use Rattle.lte_bits.specs.Softs.{IsWithin}
use Rattle.model_receiver.specs.Borders.{at}
use Rattle.window_rows.proofs.rows.lay_row.Given as goal

abbrev pub invariant-loop-t : goal.invariant-loop-t
invariant-loop-t g l = record {
  long : length l.row ≡ g.row.N;
  value : (k : ℕ) → k < l.t → at l.row k ≡ at l.values (k * l.width + l.j);
  within : (k : ℕ) → k < l.t → IsWithin 127 (at l.row k);
}
