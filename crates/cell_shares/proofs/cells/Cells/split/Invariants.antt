use Rattle.std.proofs.Common.{◌≡◌, ◌≤◌}
use Rattle.std.specs.Prelude.{vec_len, vec_capacity}
use Rattle.cell_shares.specs.Rights.{HoldsRight}
use Rattle.cell_shares.proofs.Dealing.{Dealing}
use Rattle.cell_shares.proofs.cells.Cells.split.Given as goal

abbrev pub invariant-loop-number : goal.invariant-loop-number
invariant-loop-number g l =
    Dealing l.fn.self l.fn.order l.number l.rest l.shares.items × (l.fn.self.windows ≤ vec_capacity l.shares) × (vec_len l.shares ≡ l.number)
    × HoldsRight l.right l.fn.self.part.ptr l.fn.self.count l.fn.self.heap l.number
