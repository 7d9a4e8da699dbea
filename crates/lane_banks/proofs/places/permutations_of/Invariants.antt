use Rattle.std.proofs.Common.{◌≡◌, length}
use Rattle.std.specs.Prelude.{slice_index}
use Rattle.lane_banks.proofs.PermutationSteps.{IsTableTo}
use Rattle.lane_banks.proofs.places.permutations_of.Given as goal

abbrev pub invariant-loop-j : goal.invariant-loop-j
invariant-loop-j g l = record {
  rows : length l.permutations.rows.items ≡ l.width;
  banks : length l.permutations.banks.items ≡ l.width;
  table : IsTableTo g.row.N l.width l.j (slice_index l.places) l.permutations.rows.items l.permutations.banks.items;
}
