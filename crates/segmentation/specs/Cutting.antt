-- A payload that is cut into code blocks (36.212 5.1.2).
use Rattle.std.specs.Prelude.{◌≡◌, ℕ, ◌-◌, ◌/◌, List, length}
use Rattle.lte_bits.specs.declared.bit.Bit.{Bit}
use Rattle.lte_bits.specs.Packing.{unpacked}
use Rattle.model_sender.specs.CheckBits.{crc, crc24a}
use Rattle.model_sender.specs.Segmentation.{Plan, plan_of}
use Rattle.model_sender.specs.CodeBlocks.{before}
use Rattle.segmentation.specs.Plans.{IsPlan}

-- how many bytes the blocks before block r take after the fillers
abbrev pub bytes_before : Plan → ℕ → ℕ
bytes_before plan r = (before plan r - plan.f) / 8

-- its plan and its check bits
pub record IsToCut (payload : List ℕ) (plan : Plan) (check_bits : List Bit) : Type 0 where
  pub lawful : IsPlan plan
  pub planned : plan ≡ plan_of (length payload)
  pub check : check_bits ≡ crc crc24a (unpacked payload)
