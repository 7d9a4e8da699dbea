-- A channel with noise, by its numbers.
use Rattle.std.specs.Prelude.{ℕ, ◌≤◌}
use Rattle.soft_channel.specs.Noise.{Strength, Transmission}

-- the amplitude of a sent bit, the noise on it, and the seed that the noise comes from
pub record NoiseChannel : Type 0 where
  pub amp : ℕ
  pub noise : ℕ
  pub seed : ℕ

-- what all channels keep
pub record IsChannel (c : NoiseChannel) : Type 0 where
  pub some_amp : 1 ≤ c.amp
  pub few_amp : c.amp ≤ 127
  pub few_noise : c.noise ≤ 127

abbrev pub strength_of : NoiseChannel → Strength
strength_of c = record { amp = c.amp; noise = c.noise }

-- a transmission of a block that is sent over it
abbrev pub transmission_over : NoiseChannel → (block number : ℕ) → Transmission
transmission_over c block number = record { seed = c.seed; block = block; number = number }
