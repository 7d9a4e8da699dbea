-- The code blocks of a payload, and their coded streams.
use Rattle.std.specs.Prelude.{◌≡◌, ℕ, ◌≤◌, List, length, map}
use Rattle.lte_bits.specs.declared.block.Streams.{Streams}
use Rattle.model_sender.specs.Segmentation.{plan_of}
use Rattle.model_sender.specs.CodeBlocks.{blocks}
use Rattle.model_sender.specs.CodedStreams.{streams}

-- a transport block has so many bytes
pub record MayBeSent (payload : List ℕ) : Type 0 where
  pub some : 1 ≤ length payload
  pub few : length payload ≤ 18722

-- the payload may be sent, and these are the streams of its code blocks, in their order
pub record AreStreamsOf (payload : List ℕ) (all : List Streams) : Type 0 where
  pub some : 1 ≤ length payload
  pub few : length payload ≤ 18722
  pub coded : all ≡ map streams (blocks (plan_of (length payload)) payload)
