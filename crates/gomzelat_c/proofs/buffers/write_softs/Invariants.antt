use Rattle.std.proofs.Common.{◌≡◌, take, drop}
use Rattle.gomzelat_c.proofs.buffers.write_softs.Given as goal

abbrev pub invariant-loop-i : goal.invariant-loop-i
invariant-loop-i l = record {
  written : take l.i l.buffer ≡ take l.i l.softs;
  left : drop l.i l.buffer ≡ drop l.i l.initial.buffer;
}
