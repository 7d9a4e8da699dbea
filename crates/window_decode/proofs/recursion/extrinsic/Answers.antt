use Rattle.std.proofs.Common.{◌≡◌, ◌+ℤ◌, ◌-ℤ◌, ℤ, List, arith, ap, ◌∙◌, w16, w32, to_z, of_z}
use Rattle.std.proofs.lemmas.Int.{ints}
use Rattle.lte_bits.specs.Softs.{IsWithin}
use Rattle.lte_bits.specs.declared.bit.Bit.{Bit}
use Rattle.lte_bits.specs.declared.bit.Bit.TheVariants.{Zero, One}
use Rattle.model_receiver.specs.Borders.{number_for, border_of}
use Rattle.model_receiver.specs.Paths.{greatest}
use Rattle.window_decode.specs.Recursions.{through, joined}
use Rattle.window_decode.specs.Lanes.{IsRelative}
use Rattle.window_decode.proofs.Within.{within-same}
use Rattle.window_decode.proofs.EightStates.{greatest-within}
use Rattle.window_decode.proofs.LaneNumbers.{AreNumbers, passed, numbers_passed, lanes_passed, sum-fits}
use Rattle.window_decode.proofs.LaneKernel.{relative-numbers, relative-still, onward, onward-numbers, joined-numbers}
use Rattle.window_decode.proofs.recursion.extrinsic.Goals as goal

pub beta_branch-requires-clause-after : goal.beta_branch-requires-clause-after
beta_branch-requires-clause-after c = relative-still c.args.after c.requires.after

pub beta_branch-requires-2-clause-after : goal.beta_branch-requires-2-clause-after
beta_branch-requires-2-clause-after c = relative-still c.args.after c.requires.after

pub sum-requires-clause-first : goal.sum-requires-clause-first
sum-requires-clause-first c = lanes_passed 6391 _ _ (omega arith) (relative-numbers c.args.before c.requires.before)

pub sum-requires-clause-second : goal.sum-requires-clause-second
sum-requires-clause-second c = lanes_passed 6518 _ _ (omega arith)
    (onward-numbers Zero c.args.after c.args.value c.beta_branch.result c.requires.after c.requires.value c.beta_branch.ensures)

pub sum-requires-clause-fits : goal.sum-requires-clause-fits
sum-requires-clause-fits c =
    sum-fits 6391 6518 _ _ c.args.before c.beta_branch.result (omega arith) (relative-numbers c.args.before c.requires.before)
    (onward-numbers Zero c.args.after c.args.value c.beta_branch.result c.requires.after c.requires.value c.beta_branch.ensures)

pub sum-requires-2-clause-first : goal.sum-requires-2-clause-first
sum-requires-2-clause-first c = lanes_passed 6391 _ _ (omega arith) (relative-numbers c.args.before c.requires.before)

pub sum-requires-2-clause-second : goal.sum-requires-2-clause-second
sum-requires-2-clause-second c = lanes_passed 6518 _ _ (omega arith) (onward-numbers One c.args.after c.args.value c.beta_branch-2.result c.requires.after c.requires.value c.beta_branch-2.ensures)

pub sum-requires-2-clause-fits : goal.sum-requires-2-clause-fits
sum-requires-2-clause-fits c =
    sum-fits 6391 6518 _ _ c.args.before c.beta_branch-2.result (omega arith) (relative-numbers c.args.before c.requires.before)
    (onward-numbers One c.args.after c.args.value c.beta_branch-2.result c.requires.after c.requires.value c.beta_branch-2.ensures)

-- the greatest number through the position by a bit
record IsThrough (before after : List ℤ) (p : ℤ) (u : Bit) (r : ℤ) : Type 0 where
  value : r ≡ through before after p u
  range : IsWithin 12909 r

by_bit : (u : Bit) (before after : List ℤ) (p : ℤ) (o s : List ℤ) (r : ℤ) → IsRelative before → AreNumbers 6518 (onward after p u) o
    → s ≡ border_of (λ t. number_for (passed before) t +ℤ number_for (passed o) t) → r ≡ greatest (passed s)
    → IsThrough before after p u r
by_bit u before after p o s r h g e f =
    let w = joined-numbers u before after p o s h g e in
    let is : passed s ≡ border_of (joined (number_for before) (number_for after) p u) = numbers_passed 12909 _ s (omega arith) w in
    record { value = f ∙ ap greatest is; range = within-same 12909 r _ f (greatest-within (passed s) _ 12909 is w.bounded) }

pub greatest-zero-requires : goal.greatest-zero-requires
greatest-zero-requires c =
    lanes_passed 12909 _ _ (omega arith)
    (joined-numbers Zero c.args.before c.args.after c.args.value c.beta_branch.result c.sum.result c.requires.before
    (onward-numbers Zero c.args.after c.args.value c.beta_branch.result c.requires.after c.requires.value c.beta_branch.ensures) c.sum.ensures)

pub greatest-one-requires : goal.greatest-one-requires
greatest-one-requires c =
    lanes_passed 12909 _ _ (omega arith)
    (joined-numbers One c.args.before c.args.after c.args.value c.beta_branch-2.result c.sum-2.result c.requires.before
    (onward-numbers One c.args.after c.args.value c.beta_branch-2.result c.requires.after c.requires.value c.beta_branch-2.ensures) c.sum-2.ensures)

through-by : (u : Bit) (before after : List ℤ) (p : ℤ) (o s : List ℤ) (r : ℤ) → IsRelative before → IsRelative after → IsWithin 127 p
    → o ≡ border_of (onward (passed after) (to_z w16 (of_z w16 p)) u) → s ≡ border_of (λ t. number_for (passed before) t +ℤ number_for (passed o) t)
    → r ≡ greatest (passed s) → IsThrough before after p u r
through-by u before after p o s r h k l e f g = by_bit u before after p o s r h (onward-numbers u after p o k l e) f g

difference : (a b x y u v : ℤ) → a ≡ to_z w16 (of_z w16 x) → b ≡ to_z w16 (of_z w16 y) → x ≡ u → y ≡ v → IsWithin 12909 x → IsWithin 12909 y
    → to_z w32 (of_z w32 (to_z w32 (of_z w32 a) -ℤ to_z w32 (of_z w32 b))) ≡ u -ℤ v
difference a b x y u v e f g h k l = omega (arith, ints)

difference-range : (a b x y : ℤ) → a ≡ to_z w16 (of_z w16 x) → b ≡ to_z w16 (of_z w16 y) → IsWithin 12909 x → IsWithin 12909 y
    → IsWithin 25818 (to_z w32 (of_z w32 (to_z w32 (of_z w32 a) -ℤ to_z w32 (of_z w32 b))))
difference-range a b x y e f k l = (omega (arith, ints), omega (arith, ints))

pub returns-clause-value : goal.returns-clause-value
returns-clause-value c =
    let zero = through-by Zero c.args.before c.args.after c.args.value c.beta_branch.result c.sum.result c.greatest-zero.result
    c.requires.before c.requires.after c.requires.value c.beta_branch.ensures c.sum.ensures c.greatest-zero.ensures in
    let one = through-by One c.args.before c.args.after c.args.value c.beta_branch-2.result c.sum-2.result c.greatest-one.result
    c.requires.before c.requires.after c.requires.value c.beta_branch-2.ensures c.sum-2.ensures c.greatest-one.ensures in
    difference c.from.result c.from-2.result c.greatest-zero.result c.greatest-one.result _ _ c.from.ensures c.from-2.ensures zero.value one.value zero.range one.range

pub returns-clause-range : goal.returns-clause-range
returns-clause-range c =
    let zero = through-by Zero c.args.before c.args.after c.args.value c.beta_branch.result c.sum.result c.greatest-zero.result
    c.requires.before c.requires.after c.requires.value c.beta_branch.ensures c.sum.ensures c.greatest-zero.ensures in
    let one = through-by One c.args.before c.args.after c.args.value c.beta_branch-2.result c.sum-2.result c.greatest-one.result
    c.requires.before c.requires.after c.requires.value c.beta_branch-2.ensures c.sum-2.ensures c.greatest-one.ensures in
    difference-range c.from.result c.from-2.result c.greatest-zero.result c.greatest-one.result c.from.ensures c.from-2.ensures zero.range one.range
