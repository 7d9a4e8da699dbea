use Rattle.std.proofs.Common.{◌≡◌, ◌*◌, ◌≤◌}
use Rattle.soft_buffers.specs.Flat.{cells_in}
use Rattle.soft_buffers.specs.Parts.{before}
use Rattle.soft_buffers.proofs.flat.cell_count.Given as goal

abbrev pub invariant-loop-r : goal.invariant-loop-r
invariant-loop-r l = record {
  sum : l.count ≡ before (cells_in l.plan) l.r;
  few : l.count ≤ 18444 * l.r;
}
