-- The words that noise and trial payloads are made of: this project's own.
use Rattle.std.specs.Prelude.{ℕ, List, ◌∷◌, ◌++◌, replicate}
use Rattle.byteorder.specs.Endian.{big_bytes}
use Rattle.rand_chacha.specs.ChaCha.{word_at, key_of}
use Rattle.soft_channel.specs.declared.words.Purpose.{Purpose}
use Rattle.soft_channel.specs.declared.words.Purpose.TheVariants.{Noise, Payload}

-- what words are drawn for: a purpose, in a transmission of a block, both counted from 0, of a run's seed
pub record Draw : Type 0 where
  pub purpose : Purpose
  pub seed : ℕ
  pub block : ℕ
  pub transmission : ℕ

abbrev pub purpose_byte : Purpose → ℕ
purpose_byte Noise = 0
purpose_byte Payload = 1

-- the generator's key of 32 bytes: the seed in 8, the block in 4, transmission and purpose in 1 each, each
-- with its highest byte first, and 18 zeros
abbrev pub key : Draw → List ℕ
key d = big_bytes 8 d.seed ++ big_bytes 4 d.block ++ d.transmission ∷ purpose_byte d.purpose ∷ replicate 18 0

-- word i of stream 0 of ChaCha with 8 rounds, which are 4 double rounds
unfoldable pub word : Draw → ℕ → ℕ
word d i = word_at 4 (key_of (key d)) 0 i
