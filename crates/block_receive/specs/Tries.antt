-- One try from soft cells, whatever they are.
use Rattle.std.specs.Prelude.{ℕ, ℤ, List, None, map, slice_index_or, unwrap_or}
use Rattle.std.specs.List.{range_with_len}
use Rattle.model_sender.specs.Segmentation.{Plan, fill, size}
use Rattle.model_receiver.specs.declared.result.CodeResult.{CodeResult}
use Rattle.model_receiver.specs.Decoding.{code_result}
use Rattle.model_receiver.specs.Limits.{DecoderLimits}
use Rattle.model_receiver.specs.TransportBlocks.{Held, block_shape}
use Rattle.soft_buffers.specs.Buffers.{cells_of_block, streams_of_cells}

-- what the decoding of block r gives, from the beginning, from its cells
abbrev pub result_from : Plan → DecoderLimits → List (List ℤ) → ℕ → CodeResult
result_from plan limits cells r =
    code_result (streams_of_cells (size plan r) (fill plan r) (cells_of_block cells r)) (block_shape plan limits r)

-- the result of block r: the one that is held, or else it is decoded
abbrev pub tried_block_from : Plan → DecoderLimits → List (List ℤ) → Held → ℕ → CodeResult
tried_block_from plan limits cells held r = unwrap_or (slice_index_or held r None) (result_from plan limits cells r)

unfoldable pub tried_from : Plan → DecoderLimits → List (List ℤ) → Held → List CodeResult
tried_from plan limits cells held = map (tried_block_from plan limits cells held) (range_with_len 0 plan.c)
