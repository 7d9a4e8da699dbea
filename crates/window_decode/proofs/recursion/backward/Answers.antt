use Rattle.std.proofs.Common.{◌≡◌, ◌+ℤ◌, ℤ, List, arith, w16, to_z, of_z}
use Rattle.std.specs.Int.{int_max}
use Rattle.lte_bits.specs.Softs.{IsWithin}
use Rattle.lte_bits.specs.declared.bit.Bit.{Bit}
use Rattle.lte_bits.specs.declared.bit.Bit.TheVariants.{Zero, One}
use Rattle.model_receiver.specs.Borders.{number_for, border_of}
use Rattle.window_decode.specs.Recursions.{step_gain, way_out, backward}
use Rattle.window_decode.specs.Lanes.{IsRelative}
use Rattle.window_decode.proofs.Within.{within-more}
use Rattle.window_decode.proofs.LaneNumbers.{AreNumbers, passed, numbers_passed, lanes_passed, larger-numbers, sum-fits, sum-numbers}
use Rattle.window_decode.proofs.LaneKernel.{numbers-same, relative-still, onward, onward-numbers, all-numbers, out_by_zero, out_by_one, above_zero-fits, above_zero-numbers}
use Rattle.window_decode.proofs.recursion.backward.Goals as goal

abbrev onward_passed : List ℤ → ℤ → Bit → List ℤ
onward_passed m p u = border_of (onward (passed m) (to_z w16 (of_z w16 p)) u)

-- the way out by 0
zero-numbers : (m : List ℤ) (x p : ℤ) (a o r : List ℤ) → IsRelative m → IsWithin 638 x → IsWithin 127 p → a ≡ border_of (λ _. to_z w16 (of_z w16 x)) → o ≡ onward_passed m p Zero
    → r ≡ border_of (λ s. number_for (passed a) s +ℤ number_for (passed o) s) → AreNumbers 7156 (λ s. way_out (number_for m) (step_gain x p) s Zero) r
zero-numbers m x p a o r h k l e f g =
    numbers-same 7156 (λ s. x +ℤ onward m p Zero s) (λ s. way_out (number_for m) (step_gain x p) s Zero) r (out_by_zero m x p)
    (sum-numbers 638 6518 (λ _. x) (onward m p Zero) a o r (omega arith) (all-numbers 638 x a (omega arith) k e) (onward-numbers Zero m p o h l f) g)

-- and by 1
one-numbers : (m : List ℤ) (x p : ℤ) (o : List ℤ) → IsRelative m → IsWithin 127 p → o ≡ onward_passed m p One → AreNumbers 7156 (λ s. way_out (number_for m) (step_gain x p) s One) o
one-numbers m x p o h l f =
    let w = onward-numbers One m p o h l f in
    numbers-same 7156 (onward m p One) (λ s. way_out (number_for m) (step_gain x p) s One) o (out_by_one m x p)
    (record { is = w.is; bounded = λ s. within-more 6518 7156 _ (omega arith) (w.bounded s) })

greater : (m : List ℤ) (x p : ℤ) (a o r one g : List ℤ) → IsRelative m → IsWithin 638 x → IsWithin 127 p → a ≡ border_of (λ _. to_z w16 (of_z w16 x)) → o ≡ onward_passed m p Zero
    → r ≡ border_of (λ s. number_for (passed a) s +ℤ number_for (passed o) s) → one ≡ onward_passed m p One
    → g ≡ border_of (λ s. int_max (number_for (passed r) s) (number_for (passed one) s)) → AreNumbers 7156 (backward (number_for m) (step_gain x p)) g
greater m x p a o r one g h k l e f i j q =
    larger-numbers 7156 (λ s. way_out (number_for m) (step_gain x p) s Zero) (λ s. way_out (number_for m) (step_gain x p) s One) r one g (omega arith)
    (zero-numbers m x p a o r h k l e f i) (one-numbers m x p one h l j) q

pub beta_branch-requires-clause-after : goal.beta_branch-requires-clause-after
beta_branch-requires-clause-after c = relative-still c.args.after c.requires

pub beta_branch-one-requires-clause-after : goal.beta_branch-one-requires-clause-after
beta_branch-one-requires-clause-after c = relative-still c.args.after c.requires

pub sum-zero-requires-clause-first : goal.sum-zero-requires-clause-first
sum-zero-requires-clause-first c = lanes_passed 638 _ _ (omega arith) (all-numbers 638 c.args.step.input c.all.result (omega arith) c.args.step.input_bound c.all.ensures)

pub sum-zero-requires-clause-second : goal.sum-zero-requires-clause-second
sum-zero-requires-clause-second c =
    lanes_passed 6518 _ _ (omega arith) (onward-numbers Zero c.args.after c.args.step.parity c.beta_branch.result c.requires c.args.step.parity_bound c.beta_branch.ensures)

pub sum-zero-requires-clause-fits : goal.sum-zero-requires-clause-fits
sum-zero-requires-clause-fits c =
    sum-fits 638 6518 _ _ c.all.result c.beta_branch.result (omega arith)
    (all-numbers 638 c.args.step.input c.all.result (omega arith) c.args.step.input_bound c.all.ensures)
    (onward-numbers Zero c.args.after c.args.step.parity c.beta_branch.result c.requires c.args.step.parity_bound c.beta_branch.ensures)

pub larger-requires-clause-first : goal.larger-requires-clause-first
larger-requires-clause-first c =
    lanes_passed 7156 _ _ (omega arith)
    (zero-numbers c.args.after c.args.step.input c.args.step.parity c.all.result c.beta_branch.result c.sum-zero.result
    c.requires c.args.step.input_bound c.args.step.parity_bound c.all.ensures c.beta_branch.ensures c.sum-zero.ensures)

pub larger-requires-clause-second : goal.larger-requires-clause-second
larger-requires-clause-second c =
    lanes_passed 7156 _ _ (omega arith) (one-numbers c.args.after c.args.step.input c.args.step.parity c.beta_branch-one.result c.requires c.args.step.parity_bound c.beta_branch-one.ensures)

pub above_zero-requires-clause-lanes : goal.above_zero-requires-clause-lanes
above_zero-requires-clause-lanes c =
    lanes_passed 7156 _ _ (omega arith)
    (greater c.args.after c.args.step.input c.args.step.parity c.all.result c.beta_branch.result c.sum-zero.result c.beta_branch-one.result c.larger.result
    c.requires c.args.step.input_bound c.args.step.parity_bound c.all.ensures c.beta_branch.ensures c.sum-zero.ensures c.beta_branch-one.ensures c.larger.ensures)

pub above_zero-requires-clause-fits : goal.above_zero-requires-clause-fits
above_zero-requires-clause-fits c =
    above_zero-fits 7156 _ c.larger.result (omega arith)
    (greater c.args.after c.args.step.input c.args.step.parity c.all.result c.beta_branch.result c.sum-zero.result c.beta_branch-one.result c.larger.result
    c.requires c.args.step.input_bound c.args.step.parity_bound c.all.ensures c.beta_branch.ensures c.sum-zero.ensures c.beta_branch-one.ensures c.larger.ensures)

pub returns : goal.returns
returns c =
    numbers_passed 14312 _ c.above_zero.result (omega arith)
    (above_zero-numbers 7156 _ c.larger.result c.above_zero.result (omega arith)
    (greater c.args.after c.args.step.input c.args.step.parity c.all.result c.beta_branch.result c.sum-zero.result c.beta_branch-one.result c.larger.result
    c.requires c.args.step.input_bound c.args.step.parity_bound c.all.ensures c.beta_branch.ensures c.sum-zero.ensures c.beta_branch-one.ensures c.larger.ensures)
    c.above_zero.ensures)
