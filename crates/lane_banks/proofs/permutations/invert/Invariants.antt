use Rattle.std.proofs.Common.{◌≡◌, ℕ, ◌<◌, length}
use Rattle.std.specs.Prelude.{slice_index}
use Rattle.lane_banks.specs.Permutations.{AreDistinct}
use Rattle.lane_banks.proofs.permutations.invert.Given as goal

abbrev pub invariant-loop-t : goal.invariant-loop-t
invariant-loop-t g l = record {
  long : length l.windows ≡ g.row.N;
  below : (b : ℕ) → b < g.row.N → slice_index l.windows b < g.row.N;
  window : AreDistinct g.row.N l.banks → (k : ℕ) → k < l.t → slice_index l.windows (slice_index l.banks k) ≡ k;
}
