use Rattle.std.proofs.Common.{◌≡◌, ◌*◌, ◌≤◌}
use Rattle.model_sender.specs.Segmentation.{size}
use Rattle.soft_buffers.specs.Parts.{before}
use Rattle.gomzelat_c.proofs.state.bit_count.Given as goal

abbrev pub invariant-loop-r : goal.invariant-loop-r
invariant-loop-r l = record {
  sum : l.count ≡ before (size l.plan) l.r;
  few : l.count ≤ 6144 * l.r;
}
