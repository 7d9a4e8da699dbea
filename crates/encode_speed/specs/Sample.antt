-- The code block and the transport block that are encoded.
use Rattle.std.specs.Prelude.{ℕ, ◌*◌, ◌%◌, nat_lt, if◌then◌else◌, List, map, None}
use Rattle.std.specs.List.{range_with_len}
use Rattle.lte_bits.specs.declared.bit.Bit.{Bit}
use Rattle.lte_bits.specs.declared.bit.Bit.TheVariants.{Zero, One}
use Rattle.lte_bits.specs.declared.block.Block.{Block}
use Rattle.model_sender.specs.CircularBuffer.{Match}

-- 1 where i * i mod 7 is less than 3
abbrev pub sample_bit : ℕ → Bit
sample_bit i = if nat_lt (i * i % 7) 3 then One else Zero

-- the block of k bits
unfoldable pub sample : ℕ → Block
sample k = record { fill = 0; bits = map sample_bit (range_with_len 0 k) }

abbrev pub sample_byte : ℕ → ℕ
sample_byte i = i * i % 251

-- a payload of n bytes
unfoldable pub sample_payload : ℕ → List ℕ
sample_payload n = map sample_byte (range_with_len 0 n)

-- Q_m = 6, N_L = 1, G = 90,000 and a full buffer
abbrev pub matching : Match
matching = record { qm = 6; nl = 1; g = 90000; limit = None }
