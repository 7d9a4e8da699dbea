use Rattle.std.proofs.Common.{◌≡◌, ℕ, ◌<◌, length, get_or, pos}
use Rattle.lte_bits.specs.Softs.{IsWithin}
use Rattle.soft_channel.specs.Noise.{term}
use Rattle.soft_channel.proofs.chunks.terms_of.Given as goal

abbrev pub invariant-loop-i : goal.invariant-loop-i
invariant-loop-i l =
    (length l.terms ≡ 64)
    × ((k : ℕ) → k < l.i → get_or l.terms k (pos 0) ≡ term l.noise (get_or l.words k 0))
    × ((k : ℕ) → k < l.i → IsWithin 437 (get_or l.terms k (pos 0)))
