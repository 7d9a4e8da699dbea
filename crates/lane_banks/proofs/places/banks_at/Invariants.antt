use Rattle.std.proofs.Common.{◌≡◌, ℕ, ◌+◌, ◌*◌, ◌/◌, ◌<◌, length, slice_index_or}
use Rattle.lane_banks.proofs.places.banks_at.Given as goal

abbrev pub invariant-loop-t : goal.invariant-loop-t
invariant-loop-t g l = record {
  long : length l.permutation ≡ g.row.N;
  done : (k : ℕ) → k < l.t → slice_index_or l.permutation k 0 ≡ slice_index_or l.places (k * l.width + l.j) 0 / l.width;
}
