use Rattle.std.proofs.Common.{◌≡◌}
use Rattle.rate_match.specs.Runs.{bit_down}
use Rattle.soft_buffers.specs.Runs.{with_values}
use Rattle.soft_buffers.proofs.values.add_run.Given as goal

abbrev pub invariant-loop-i : goal.invariant-loop-i
invariant-loop-i l = l.cells ≡ with_values l.k (bit_down l.run.first) l.values l.i l.fn.cells
