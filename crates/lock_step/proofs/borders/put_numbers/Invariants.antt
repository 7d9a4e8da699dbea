use Rattle.std.proofs.Common.{◌≡◌, ℕ, ◌<◌, length}
use Rattle.model_receiver.specs.Borders.{IsBorder, at}
use Rattle.lock_step.specs.Lanes.{border_at}
use Rattle.lock_step.proofs.borders.put_numbers.Given as goal

abbrev pub invariant-loop-t : goal.invariant-loop-t
invariant-loop-t g l = record {
  long : length l.row ≡ g.row.N;
  lanes : (k : ℕ) → k < l.t → at l.row k ≡ at (border_at l.borders k) l.s;
  border : (k : ℕ) → k < l.t → IsBorder (border_at l.borders k);
}
