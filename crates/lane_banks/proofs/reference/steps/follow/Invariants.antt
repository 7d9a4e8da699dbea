use Rattle.std.proofs.Common.{◌≡◌, length}
use Rattle.cell_shares.specs.Orders.{place_in}
use Rattle.lane_banks.proofs.PermutationSteps.{IsTableTo}
use Rattle.lane_banks.proofs.reference.steps.follow.Given as goal

abbrev pub invariant-loop-j : goal.invariant-loop-j
invariant-loop-j g l = record {
  rows : length l.permutations.rows.items ≡ length l.fn.permutations.rows.items;
  banks : length l.permutations.banks.items ≡ length l.fn.permutations.banks.items;
  table : IsTableTo g.row.N l.width l.j (place_in l.order) l.permutations.rows.items l.permutations.banks.items;
}
