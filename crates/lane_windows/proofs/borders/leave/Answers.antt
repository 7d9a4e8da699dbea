use Rattle.std.proofs.Common.{ℕ, length, arith}
use Rattle.std.proofs.lemmas.List.FromFn.{fill_by_all}
use Rattle.model_receiver.specs.HalfIteration.{none_left}
use Rattle.lock_step.specs.Lanes.{border_at}
use Rattle.lane_windows.proofs.borders.leave.Goals as goal

pub returns : goal.returns
returns c =
    fill_by_all (λ (t : ℕ). record { forward = border_at c.args.alpha_out.now t; backward = border_at c.args.beta_out.now t }) c.loop-t.left (length c.args.left.now) none_left c.loop-t.auto.left
    (λ t lt. c.loop-t.invariant t (omega (arith, c.loop-t-test.false, c.loop-t.auto.left, lt)))
