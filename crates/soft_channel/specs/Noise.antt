-- Soft values of bits that were sent with an amplitude through noise: this project's own.
use Rattle.std.specs.Prelude.{ℕ, ℤ, pos, neg_ℤ, ◌+ℤ◌, ◌-ℤ◌, ◌*ℤ◌, int_div, List, length, map, slice_index_or}
use Rattle.std.specs.List.{range_with_len, sum}
use Rattle.byteorder.specs.Endian.{big_bytes}
use Rattle.lte_bits.specs.Softs.{clamped}
use Rattle.lte_bits.specs.declared.bit.Bit.{Bit}
use Rattle.lte_bits.specs.declared.bit.Bit.TheVariants.{Zero, One}
use Rattle.soft_channel.specs.Words.{Draw, word}
use Rattle.soft_channel.specs.declared.words.Purpose.TheVariants.{Noise}

-- a transmission of a block, both counted from 0, of a run's seed
pub record Transmission : Type 0 where
  pub seed : ℕ
  pub block : ℕ
  pub number : ℕ

-- how strong a sent bit is, and the noise on it
pub record Strength : Type 0 where
  pub amp : ℕ
  pub noise : ℕ

-- what the words of a transmission's noise are drawn for
abbrev pub noise_draw : Transmission → Draw
noise_draw t = record { purpose = Noise; seed = t.seed; block = t.block; transmission = t.number }

-- by how much the sum of a word's four bytes is above its mean
abbrev pub deviation : ℕ → ℤ
deviation word = pos (sum (big_bytes 4 word)) -ℤ pos 510

-- the term that a word gives, rounded toward zero: the sum's standard deviation is about 148, so the noise is
-- that of the terms
abbrev pub term : (noise word : ℕ) → ℤ
term noise word = int_div (pos noise *ℤ deviation word) (pos 148)

-- the term of place i
abbrev pub noise_term : ℕ → Transmission → ℕ → ℤ
noise_term noise t i = term noise (word (noise_draw t) i)

-- the terms of the first places
unfoldable pub noise_terms : ℕ → Transmission → ℕ → List ℤ
noise_terms noise t count = map (noise_term noise t) (range_with_len 0 count)

-- the number that a bit is sent as
abbrev pub sent : ℕ → Bit → ℤ
sent amp Zero = pos amp
sent amp One = neg_ℤ (pos amp)

-- the soft value of a bit with a term
abbrev pub received : ℕ → Bit → ℤ → ℤ
received amp bit x = clamped 127 (sent amp bit +ℤ x)

-- the soft value of the bit of place i
abbrev pub noisy_value : Strength → Transmission → List Bit → ℕ → ℤ
noisy_value s t bits i = received s.amp (slice_index_or bits i Zero) (noise_term s.noise t i)

-- the soft values of a transmission's bits
unfoldable pub noisy : Strength → Transmission → List Bit → List ℤ
noisy s t bits = map (noisy_value s t bits) (range_with_len 0 (length bits))
