use Rattle.std.proofs.Common.{◌≡◌, ℕ, ◌<◌, pos, get_or}
use Rattle.stream_loop.specs.SoftBytes.{softs_of}
use Rattle.stream_loop.proofs.softs.read_softs.Given as goal

abbrev pub invariant-loop-i : goal.invariant-loop-i
invariant-loop-i l = (k : ℕ) → k < l.i → get_or l.softs k (pos 0) ≡ get_or (softs_of l.bytes) k (pos 0)
