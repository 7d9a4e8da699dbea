-- What a channel makes of the bits of a transmission.
use Rattle.std.specs.Prelude.{ℕ, ℤ, List, take}
use Rattle.lte_bits.specs.Packing.{unpacked}
use Rattle.soft_channel.specs.Channel.{NoiseChannel, strength_of, transmission_over}
use Rattle.soft_channel.specs.Noise.{noisy}
use Rattle.gomzelat_c.specs.declared.channel.Channel.{Channel}

-- the channel of a caller
abbrev pub noise_channel : Channel → NoiseChannel
noise_channel c = record { amp = c.amp; noise = c.noise; seed = c.seed }

-- the soft values of the first so many bits of some bytes, sent as transmission `number` of a block
abbrev pub noisy_bits : (bits : ℕ) → (bytes : List ℕ) → Channel → (block number : ℕ) → List ℤ
noisy_bits bits bytes c block number =
    let own = noise_channel c in noisy (strength_of own) (transmission_over own block number) (take bits (unpacked bytes))
