-- The codeword of a transport block (36.212 5.1.5).
use Rattle.std.specs.Prelude.{ℕ, List, length, flat_map}
use Rattle.std.specs.List.{range_with_len}
use Rattle.lte_bits.specs.declared.bit.Bit.{Bit}
use Rattle.model_sender.specs.Segmentation.{Plan, plan_of}
use Rattle.model_sender.specs.CodeBlocks.{block}
use Rattle.model_sender.specs.CodedStreams.{streams}
use Rattle.model_sender.specs.CircularBuffer.{Match}
use Rattle.model_sender.specs.Selection.{sent}

-- what is sent of block 0, then of block 1, and so on
abbrev pub codeword_of : Plan → List ℕ → Match → ℕ → List Bit
codeword_of plan payload m rv =
    flat_map (λ r. sent plan m (streams (block plan payload r)) r rv) (range_with_len 0 plan.c)

unfoldable pub codeword : List ℕ → Match → ℕ → List Bit
codeword payload m rv = codeword_of (plan_of (length payload)) payload m rv
