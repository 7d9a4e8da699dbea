use Rattle.std.proofs.Common.{◌≡◌, drop, map}
use Rattle.std.specs.List.{range_with_len}
use Rattle.model_sender.specs.Segmentation.{size}
use Rattle.soft_buffers.specs.Parts.{before}
use Rattle.gomzelat_c.specs.State.{kept_result}
use Rattle.gomzelat_c.proofs.state.kept.Given as goal

abbrev pub invariant-loop-r : goal.invariant-loop-r
invariant-loop-r l = record {
  left : l.rest ≡ drop (before (size l.plan) l.r) l.bits;
  made : l.results.items ≡ map (kept_result l.plan l.blocks l.bits) (range_with_len 0 l.r);
}
