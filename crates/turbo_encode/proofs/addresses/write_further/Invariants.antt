use Rattle.std.proofs.Common.{◌≡◌, ℕ, ◌+◌, ◌<◌, length, get_or}
use Rattle.model_sender.specs.Interleaver.{place}
use Rattle.turbo_encode.proofs.addresses.write_further.Given as goal

abbrev pub invariant-loop-i : goal.invariant-loop-i
invariant-loop-i l = (j : ℕ) → j < l.count + l.i → get_or l.places j 0 ≡ place (length l.fn.places) j
