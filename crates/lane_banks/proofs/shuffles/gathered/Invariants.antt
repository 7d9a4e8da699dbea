use Rattle.std.proofs.Common.{◌≡◌, ℕ, ◌*◌, ◌<◌, ◌≤◌, length, slice_index}
use Rattle.std.specs.Int.{w16, cast_unsigned}
use Rattle.model_receiver.specs.Borders.{at}
use Rattle.lane_banks.proofs.shuffles.gathered.Given as goal

abbrev pub invariant-loop-g : goal.invariant-loop-g
invariant-loop-g g l = record {
  long : length l.gathered ≡ 8;
  some : 1 ≤ l.g;
  done : (t : ℕ) → t < 8 → slice_index l.lanes t < 8 * l.g → slice_index l.gathered t ≡ cast_unsigned w16 (at l.from (slice_index l.lanes t));
}
