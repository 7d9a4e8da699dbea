use Rattle.std.proofs.Common.{◌*◌}
use Rattle.model_sender.specs.CodedStreams.{interleaved}
use Rattle.turbo_encode.proofs.Coders.{IsCoded}
use Rattle.turbo_encode.proofs.constituent.write_parities.Given as goal

abbrev pub invariant-loop-i : goal.invariant-loop-i
invariant-loop-i l = record {
  own : IsCoded (l.i * 4) l.bits l.first l.own;
  other : IsCoded (l.i * 4) (interleaved l.bits) l.second l.other;
}
