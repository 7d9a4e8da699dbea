use Rattle.std.proofs.Common.{◌≡◌}
use Rattle.half_iteration.specs.Runs.{start_of, IsPartDone}
use Rattle.serial_decode.proofs.half.decode_half.Given as goal

abbrev pub invariant-loop-t : goal.invariant-loop-t
invariant-loop-t l = record {
  windows : l.windows ≡ l.views.shape.windows;
  room : l.work ≡ l.fn.work;
  part : IsPartDone l.views.streams.now l.views.shape l.h (start_of l.fn.cells.items l.fn.left) l.t l.cells.items l.left l.start;
}
