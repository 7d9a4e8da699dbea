use Rattle.std.proofs.Common.{◌≡◌, ℕ, ◌<◌, length, get_or, pos}
use Rattle.lte_bits.specs.declared.bit.Bit.TheVariants.{Zero}
use Rattle.soft_channel.specs.Noise.{received}
use Rattle.soft_channel.proofs.chunks.received_values.Given as goal

abbrev pub invariant-loop-i : goal.invariant-loop-i
invariant-loop-i l =
    (length l.values ≡ 64)
    × ((k : ℕ) → k < l.i → get_or l.values k (pos 0) ≡ received l.amp (get_or l.bits k Zero) (get_or l.terms k (pos 0)))
