use Rattle.std.proofs.Common.{◌≡◌, ℕ, ◌%◌, ◌<◌, length, get_or}
use Rattle.soft_channel.proofs.payloads.lowest_bytes.Given as goal

abbrev pub invariant-loop-i : goal.invariant-loop-i
invariant-loop-i l = (length l.bytes ≡ 64) × ((k : ℕ) → k < l.i → get_or l.bytes k 0 ≡ get_or l.words k 0 % 256)
