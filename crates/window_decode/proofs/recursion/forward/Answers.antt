use Rattle.std.proofs.Common.{◌≡◌, ℤ, List, arith}
use Rattle.std.specs.Int.{int_max}
use Rattle.lte_bits.specs.Softs.{IsWithin}
use Rattle.lte_bits.specs.declared.bit.Bit.TheVariants.{Zero, One}
use Rattle.model_receiver.specs.Borders.{number_for, border_of}
use Rattle.window_decode.specs.Recursions.{step_gain, way_in, forward}
use Rattle.window_decode.specs.Lanes.{IsRelative}
use Rattle.window_decode.proofs.LaneNumbers.{AreNumbers, passed, numbers_passed, lanes_passed, larger-numbers}
use Rattle.window_decode.proofs.LaneKernel.{way-numbers, above_zero-fits, above_zero-numbers, relative-still}
use Rattle.window_decode.proofs.recursion.forward.Goals as goal

pub alpha_branch-zero-requires : goal.alpha_branch-zero-requires
alpha_branch-zero-requires c = relative-still c.args.before c.requires

pub alpha_branch-one-requires : goal.alpha_branch-one-requires
alpha_branch-one-requires c = relative-still c.args.before c.requires

pub larger-next-requires-clause-first : goal.larger-next-requires-clause-first
larger-next-requires-clause-first c =
    lanes_passed 7156 _ _ (omega arith) (way-numbers Zero c.args.before c.args.step.input c.args.step.parity
    c.alpha_branch-zero.result c.requires c.args.step.input_bound c.args.step.parity_bound c.alpha_branch-zero.ensures)

pub larger-next-requires-clause-second : goal.larger-next-requires-clause-second
larger-next-requires-clause-second c =
    lanes_passed 7156 _ _ (omega arith)
    (way-numbers One c.args.before c.args.step.input c.args.step.parity c.alpha_branch-one.result c.requires c.args.step.input_bound c.args.step.parity_bound c.alpha_branch-one.ensures)

-- the greater ways into the states
greater : (m : List ℤ) (x p : ℤ) (zero one r : List ℤ) → IsRelative m → IsWithin 638 x → IsWithin 127 p
    → zero ≡ border_of (λ s. way_in (number_for (passed m)) (step_gain x p) s Zero) → one ≡ border_of (λ s. way_in (number_for (passed m)) (step_gain x p) s One)
    → r ≡ border_of (λ s. int_max (number_for (passed zero) s) (number_for (passed one) s)) → AreNumbers 7156 (forward (number_for m) (step_gain x p)) r
greater m x p zero one r h k l e f g =
    larger-numbers 7156 (λ s. way_in (number_for m) (step_gain x p) s Zero) (λ s. way_in (number_for m) (step_gain x p) s One) zero one r (omega arith)
    (way-numbers Zero m x p zero h k l e) (way-numbers One m x p one h k l f) g

pub above_zero-requires-clause-lanes : goal.above_zero-requires-clause-lanes
above_zero-requires-clause-lanes c =
    lanes_passed 7156 _ _ (omega arith)
    (greater c.args.before c.args.step.input c.args.step.parity c.alpha_branch-zero.result c.alpha_branch-one.result c.larger-next.result c.requires
    c.args.step.input_bound c.args.step.parity_bound c.alpha_branch-zero.ensures c.alpha_branch-one.ensures c.larger-next.ensures)

pub above_zero-requires-clause-fits : goal.above_zero-requires-clause-fits
above_zero-requires-clause-fits c =
    above_zero-fits 7156 _ c.larger-next.result (omega arith)
    (greater c.args.before c.args.step.input c.args.step.parity c.alpha_branch-zero.result c.alpha_branch-one.result c.larger-next.result c.requires
    c.args.step.input_bound c.args.step.parity_bound c.alpha_branch-zero.ensures c.alpha_branch-one.ensures c.larger-next.ensures)

pub returns : goal.returns
returns c =
    numbers_passed 14312 _ c.above_zero.result (omega arith)
    (above_zero-numbers 7156 _ c.larger-next.result c.above_zero.result (omega arith)
    (greater c.args.before c.args.step.input c.args.step.parity c.alpha_branch-zero.result c.alpha_branch-one.result c.larger-next.result c.requires
    c.args.step.input_bound c.args.step.parity_bound c.alpha_branch-zero.ensures c.alpha_branch-one.ensures c.larger-next.ensures)
    c.above_zero.ensures)
