-- The code blocks of a transport block (36.212 5.1.2).
use Rattle.std.specs.Prelude.{ℕ, ◌-◌, nat_lt, if◌then◌else◌, List, ◌++◌, length, map, flat_map, take, drop, replicate, sum_by}
use Rattle.std.specs.List.{range_with_len}
use Rattle.lte_bits.specs.Packing.{unpacked}
use Rattle.lte_bits.specs.declared.bit.Bit.{Bit}
use Rattle.lte_bits.specs.declared.bit.Bit.TheVariants.{Zero}
use Rattle.lte_bits.specs.declared.block.Block.{Block}
use Rattle.model_sender.specs.CheckBits.{crc, crc24a, crc24b}
use Rattle.model_sender.specs.Segmentation.{Plan, size, fill, check_length}

-- S: the fillers, the payload's bits and their check bits
abbrev pub sequence : Plan → List ℕ → List Bit
sequence plan payload = replicate plan.f Zero ++ unpacked payload ++ crc crc24a (unpacked payload)

-- how many bits of S block r takes
abbrev pub share : Plan → ℕ → ℕ
share plan r = size plan r - check_length plan.c

-- how many bits of S the blocks before block r take
abbrev pub before : Plan → ℕ → ℕ
before plan r = sum_by (share plan) (range_with_len 0 r)

-- with check bits of their own where there are several blocks
abbrev pub checked : ℕ → List Bit → List Bit
checked c bits = if nat_lt 1 c then bits ++ crc crc24b bits else bits

abbrev pub block : Plan → List ℕ → ℕ → Block
block plan payload r = record {
  fill = fill plan r;
  bits = checked plan.c (take (share plan r) (drop (before plan r) (sequence plan payload)));
}

abbrev pub blocks : Plan → List ℕ → List Block
blocks plan payload = map (block plan payload) (range_with_len 0 plan.c)

-- what blocks carry, without their fillers and own check bits
abbrev pub whole : Plan → List Block → List Bit
whole plan bs = flat_map (λ b. take (length b.bits - b.fill - check_length plan.c) (drop b.fill b.bits)) bs
