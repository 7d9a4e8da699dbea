use Rattle.std.proofs.Common.{◌≡◌, ◌*◌, map}
use Rattle.std.specs.List.{range_with_len}
use Rattle.soft_channel.specs.Noise.{Strength, Transmission, noise_draw, noisy_value}
use Rattle.soft_channel.proofs.Drawing.{drawn}
use Rattle.soft_channel.proofs.noise.noisy.Given as goal

abbrev pub invariant-loop-chunk : goal.invariant-loop-chunk
invariant-loop-chunk l =
    let t : Transmission = record { seed = l.seed; block = l.block; number = l.tx } in
    let s : Strength = record { amp = l.amp; noise = l.noise } in
    (l.words ≡ drawn (noise_draw t) (64 * l.chunk-index))
    × (l.values.items ≡ map (noisy_value s t l.bits) (range_with_len 0 (64 * l.chunk-index)))
