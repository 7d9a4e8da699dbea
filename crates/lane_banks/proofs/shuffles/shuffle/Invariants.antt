use Rattle.std.proofs.Common.{◌≡◌, ℕ, ◌*◌, ◌<◌, length, slice_index}
use Rattle.model_receiver.specs.Borders.{at}
use Rattle.lane_banks.proofs.shuffles.shuffle.Given as goal

abbrev pub invariant-loop-h : goal.invariant-loop-h
invariant-loop-h g l = record {
  long : length l.to ≡ g.row.N;
  done : (t : ℕ) → t < 8 * l.h → at l.to t ≡ at l.from (slice_index l.lanes t);
}
