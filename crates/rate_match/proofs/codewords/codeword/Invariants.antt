use Rattle.std.proofs.Common.{◌≡◌, length, flat_map}
use Rattle.std.specs.List.{range_with_len}
use Rattle.model_sender.specs.Segmentation.{plan_of}
use Rattle.model_sender.specs.CodeBlocks.{block}
use Rattle.model_sender.specs.CodedStreams.{streams}
use Rattle.model_sender.specs.Selection.{sent}
use Rattle.rate_match.proofs.codewords.codeword.Given as goal

abbrev pub invariant-loop-r : goal.invariant-loop-r
invariant-loop-r l = record {
  same : l.blocks ≡ l.fn.payload;
  all : l.bits.items ≡ flat_map (λ r. sent (plan_of (length l.fn.payload)) l.m (streams (block (plan_of (length l.fn.payload)) l.fn.payload r)) r l.rv) (range_with_len 0 l.r);
}
