use Rattle.std.proofs.Common.{◌≡◌, ℕ, ◌<◌}
use Rattle.std.specs.Prelude.{slice_index}
use Rattle.window_rows.specs.Rows.{AreWithin, number_in}
use Rattle.lane_banks.specs.Permutations.{bank_at}
use Rattle.lane_banks.proofs.permutations.LanePermutations.put_back.Given as goal

abbrev pub invariant-loop-j : goal.invariant-loop-j
invariant-loop-j g l = record {
  done : (i t : ℕ) → i < l.j → t < g.row.N → number_in l.to (slice_index l.self.rows.items i) (bank_at l.self.banks.items i t) ≡ number_in l.from i t;
  kept : (n : ℕ) → AreWithin g.row.N n l.from → AreWithin g.row.N n l.fn.to → AreWithin g.row.N n l.to;
}
