use Rattle.std.proofs.Common.{◌≡◌, ℕ, ◌/◌, ◌<◌, length, slice_index_or}
use Rattle.cell_shares.specs.Orders.{place_in}
use Rattle.lane_banks.specs.Permutations.{place_of}
use Rattle.lane_banks.proofs.reference.steps.crossbar.Given as goal

abbrev pub invariant-loop-t : goal.invariant-loop-t
invariant-loop-t g l = record {
  long : length l.banks ≡ g.row.N;
  done : (k : ℕ) → k < l.t → slice_index_or l.banks k 0 ≡ place_of (place_in l.order) l.width k l.j / l.width;
}
