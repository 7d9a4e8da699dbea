use Rattle.std.proofs.Common.{◌≡◌, ℕ, ◌<◌}
use Rattle.model_receiver.specs.HalfIteration.{left_by}
use Rattle.lock_step.specs.Lanes.{border_at}
use Rattle.lane_windows.proofs.borders.leave.Given as goal

abbrev pub invariant-loop-t : goal.invariant-loop-t
invariant-loop-t l = (u : ℕ) → u < l.t → left_by l.left u ≡ record { forward = border_at l.alpha_out u; backward = border_at l.beta_out u }
