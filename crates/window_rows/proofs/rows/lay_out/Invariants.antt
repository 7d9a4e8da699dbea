use Rattle.std.proofs.Common.{◌≡◌, ℕ, ◌+◌, ◌*◌, ◌<◌}
use Rattle.lte_bits.specs.Softs.{IsWithin}
use Rattle.model_receiver.specs.Borders.{at}
use Rattle.window_rows.specs.Rows.{number_in}
use Rattle.window_rows.proofs.rows.lay_out.Given as goal

abbrev pub invariant-loop-j : goal.invariant-loop-j
invariant-loop-j g l = record {
  value : (i t : ℕ) → i < l.j → t < g.row.N → number_in l.rows i t ≡ at l.values (t * l.width + i);
  within : (i t : ℕ) → i < l.j → IsWithin 127 (number_in l.rows i t);
}
