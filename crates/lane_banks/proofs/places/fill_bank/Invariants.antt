use Rattle.std.proofs.Common.{◌≡◌, ℕ, ◌+◌, ◌*◌, ◌<◌}
use Rattle.std.specs.Prelude.{slice_index}
use Rattle.lane_banks.proofs.places.fill_bank.Given as goal

abbrev pub invariant-loop-r : goal.invariant-loop-r
invariant-loop-r l = record {
  done : (k : ℕ) → k < l.r → slice_index l.banks (l.b * l.width + k) ≡ l.b;
  before : (i : ℕ) → i < l.b * l.width → slice_index l.banks i ≡ slice_index l.fn.banks i;
}
