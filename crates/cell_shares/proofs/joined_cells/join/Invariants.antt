use Rattle.std.proofs.Common.{◌≤◌}
use Rattle.std.specs.Prelude.{vec_len, vec_capacity}
use Rattle.cell_shares.specs.Rights.{HoldsRight}
use Rattle.cell_shares.specs.Names.{Name}
use Rattle.cell_shares.specs.Shares.{AreAllOf}
use Rattle.cell_shares.specs.declared.order.Order.{Order}
use Rattle.cell_shares.proofs.JoinSteps.{Joining, IsSplitOf}
use Rattle.cell_shares.proofs.joined_cells.join.Given as goal

abbrev pub invariant-loop-share : goal.invariant-loop-share
invariant-loop-share g l =
    ((name : Name) (order : Order) → AreAllOf name order l.fn.shares.items →
    Joining name order l.fn.shares.items l.split.width (vec_len l.shares) l.part l.shares.items × IsSplitOf name order l.split)
    × (l.split.windows ≤ vec_capacity l.shares) × HoldsRight l.right l.part.ptr l.split.count l.split.heap (vec_len l.shares)

abbrev pub decreases-loop-share : goal.decreases-loop-share
decreases-loop-share g l = vec_len l.shares
