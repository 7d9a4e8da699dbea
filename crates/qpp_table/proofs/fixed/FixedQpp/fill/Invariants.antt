use Rattle.std.proofs.Common.{◌≡◌, ℕ, ◌<◌, slice_index_or}
use Rattle.model_sender.specs.Interleaver.{place}
use Rattle.qpp_table.specs.Walk.{size_along, IsAt}
use Rattle.qpp_table.proofs.fixed.FixedQpp.fill.Given as goal

-- the addresses so far are written, and the walk stands at the next
abbrev pub invariant-loop-address : goal.invariant-loop-address
invariant-loop-address g l = record {
  written : (j : ℕ) → j < l.address-index → slice_index_or l.out j 0 ≡ place g.row.K j;
  size : size_along l.walk ≡ g.row.K;
  at : IsAt g.row.F1 g.row.F2 l.address-index l.walk;
}
