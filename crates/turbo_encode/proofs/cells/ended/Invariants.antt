use Rattle.std.proofs.Common.{◌≡◌, ◌++◌, take}
use Rattle.model_sender.specs.CodedStreams.{cells_of}
use Rattle.turbo_encode.proofs.cells.ended.Given as goal

abbrev pub invariant-loop-bit : goal.invariant-loop-bit
invariant-loop-bit l = record {
  items : l.bit-items ≡ l.fn.tail;
  cells : l.cells.items ≡ l.fn.cells.items ++ cells_of (take l.bit-index l.bit-items);
}
