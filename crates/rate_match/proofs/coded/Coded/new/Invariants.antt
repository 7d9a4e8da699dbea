use Rattle.std.proofs.Common.{◌≡◌, length, map, take}
use Rattle.model_sender.specs.Segmentation.{plan_of}
use Rattle.model_sender.specs.CodeBlocks.{blocks}
use Rattle.model_sender.specs.CodedStreams.{streams}
use Rattle.rate_match.proofs.coded.Coded.new.Given as goal

abbrev pub invariant-loop-r : goal.invariant-loop-r
invariant-loop-r l = record {
  same : l.blocks ≡ l.payload;
  coded : l.streams.items ≡ map streams (take l.r (blocks (plan_of (length l.payload)) l.payload));
}
