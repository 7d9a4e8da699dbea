use Rattle.std.proofs.Common.{◌≡◌, ◌+◌, ◌-◌, ◌*◌, ◌<◌, ◌≤◌, length}
use Rattle.model_receiver.specs.Decoding.{before, decided_in}
use Rattle.half_iteration.proofs.Stopping.{FailBefore}
use Rattle.half_iteration.proofs.iterations.decode_halves.Given as goal

abbrev pub invariant-loop-n : goal.invariant-loop-n
invariant-loop-n g l = record {
  end : l.n-end ≡ l.shape.limit + 1;
  some : 1 ≤ l.n;
  streams : g.H.HalfDecoder.streams l.decoder ≡ g.H.HalfDecoder.streams l.fn.decoder;
  shape : g.H.HalfDecoder.shape l.decoder ≡ l.shape;
  stands : g.H.HalfDecoder.before l.decoder ≡ before (g.H.HalfDecoder.streams l.fn.decoder) l.shape (2 * (l.n - 1));
  failed : FailBefore (g.H.HalfDecoder.streams l.fn.decoder) l.shape l.n;
  room : length l.bits.items ≡ l.shape.k;
  last : 1 < l.n → l.bits.items ≡ decided_in (g.H.HalfDecoder.streams l.fn.decoder) l.shape (l.n - 1);
}
