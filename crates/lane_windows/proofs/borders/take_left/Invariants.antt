use Rattle.std.proofs.Common.{◌≡◌, ℕ, ◌<◌, length}
use Rattle.model_receiver.specs.HalfIteration.{start_by, end_by}
use Rattle.lock_step.specs.Lanes.{border_at}
use Rattle.lane_windows.proofs.borders.take_left.Given as goal

abbrev pub invariant-loop-t : goal.invariant-loop-t
invariant-loop-t l = record {
  begins : l.start ≡ start_by l.left l.t;
  alpha_in : (u : ℕ) → u < l.t → border_at l.alpha_in u ≡ start_by l.left u;
  beta_in : (u : ℕ) → u < l.t → border_at l.beta_in u ≡ end_by (length l.left) l.left l.tail u;
}
