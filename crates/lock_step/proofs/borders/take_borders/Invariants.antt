use Rattle.std.proofs.Common.{◌≡◌, ℕ, ◌<◌}
use Rattle.window_rows.specs.Rows.{column}
use Rattle.lock_step.specs.Lanes.{border_at}
use Rattle.lock_step.proofs.borders.take_borders.Given as goal

abbrev pub invariant-loop-t : goal.invariant-loop-t
invariant-loop-t g l = (k : ℕ) → k < l.t → border_at l.borders k ≡ column k l.m
