use Rattle.std.proofs.Common.{◌≡◌, ℕ, ◌<◌, ◌+◌, ◌==◌, cond, length, sym, ap, ◌∙◌, subst}
use Rattle.model_receiver.specs.Borders.{Border}
use Rattle.model_receiver.specs.HalfIteration.{left_by, tail_border}
use Rattle.lock_step.specs.Lanes.{border_at}
use Rattle.lane_windows.specs.Halves.{HaveRunHalf}
use Rattle.lane_windows.proofs.LaneHalves.{cells-after, left-after}
use Rattle.lane_windows.proofs.halves.decode_half.Given.{Over}
use Rattle.lane_windows.proofs.halves.decode_half.Goals as goal

many : (g : Over) (c : goal.After-left-1 g) → length c.args.left.now ≡ c.args.views.now.views.shape.windows
many g c = c.requires.left ∙ sym c.args.views.now.windows

ends : (g : Over) (c : goal.After-left-1 g) (t : ℕ) → t < length c.args.left.now
    → border_at c.take_left.new.beta_in t ≡ cond (t + 1 == length c.args.left.now)
    (tail_border c.args.views.now.views.streams.now c.args.views.now.views.shape.k c.args.h) (left_by c.args.left.now (t + 1)).backward
ends g c t lt =
    c.take_left.ensures.beta_in t lt ∙ ap (λ (b : Border). cond (t + 1 == length c.args.left.now) b (left_by c.args.left.now (t + 1)).backward) c.tail.ensures

ran : (g : Over) (c : goal.After-left-1 g)
    → HaveRunHalf c.args.views.now.views.shape.windows c.args.views.now.views.streams.now c.args.views.now.views.shape c.args.h
    c.take_left.new.alpha_in c.take_left.new.beta_in c.args.banks.now c.run.new.banks c.run.new.alpha_out c.run.new.beta_out
ran g c = let v = c.args.views.now in
    subst (λ (n : ℕ). HaveRunHalf n v.views.streams.now v.views.shape c.args.h c.take_left.new.alpha_in c.take_left.new.beta_in
    c.args.banks.now c.run.new.banks c.run.new.alpha_out c.run.new.beta_out) (sym v.windows) c.run.ensures.ran

pub returns-clause-cells : goal.returns-clause-cells
returns-clause-cells g c =
    let v = c.args.views.now in
    cells-after v.views.streams.now v.views.shape c.args.h c.args.banks.now c.args.left.now c.take_left.new.alpha_in c.take_left.new.beta_in c.windows-windows.ensures.whole (many g c)
    c.take_left.ensures.alpha_in (ends g c) c.run.new.banks c.run.new.alpha_out c.run.new.beta_out (ran g c) c.requires.cells

pub returns-clause-left : goal.returns-clause-left
returns-clause-left g c =
    let v = c.args.views.now in
    left-after v.views.streams.now v.views.shape c.args.h c.args.banks.now c.args.left.now c.take_left.new.alpha_in c.take_left.new.beta_in c.windows-windows.ensures.whole (many g c)
    c.take_left.ensures.alpha_in (ends g c) c.run.new.banks c.run.new.alpha_out c.run.new.beta_out (ran g c) c.leave.new.left c.leave.ensures
