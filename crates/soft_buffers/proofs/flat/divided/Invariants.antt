use Rattle.std.proofs.Common.{◌≡◌, drop, map}
use Rattle.std.specs.List.{range_with_len}
use Rattle.soft_buffers.specs.Flat.{cells_in}
use Rattle.soft_buffers.specs.Parts.{before, part}
use Rattle.soft_buffers.proofs.flat.divided.Given as goal

abbrev pub invariant-loop-r : goal.invariant-loop-r
invariant-loop-r l = record {
  left : l.rest ≡ drop (before (cells_in l.plan) l.r) l.cells;
  made : l.blocks.items ≡ map (part (cells_in l.plan) l.cells) (range_with_len 0 l.r);
}
