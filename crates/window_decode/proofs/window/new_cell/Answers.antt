use Rattle.std.proofs.Common.{◌≡◌, ℤ, ◌-ℤ◌, List, ap, ◌∙◌, to_z, of_z, w16, w32, arith}
use Rattle.std.proofs.lemmas.Int.{ints}
use Rattle.lte_bits.specs.Softs.{IsWithin}
use Rattle.lte_bits.specs.declared.bit.Bit.TheVariants.{Zero, One}
use Rattle.model_receiver.specs.Windows.{cell_from}
use Rattle.window_decode.specs.Recursions.{through}
use Rattle.window_decode.proofs.Within.{within-more}
use Rattle.window_decode.proofs.LaneSteps.{stored}
use Rattle.window_decode.proofs.LaneNumbers.{passed}
use Rattle.window_decode.proofs.LaneKernel.{relative-still, passed-relative}
use Rattle.window_decode.proofs.window.new_cell.Goals as goal

pub extrinsic-requires-clause-before : goal.extrinsic-requires-clause-before
extrinsic-requires-clause-before c = relative-still c.args.before c.requires.before

pub extrinsic-requires-clause-after : goal.extrinsic-requires-clause-after
extrinsic-requires-clause-after c = relative-still c.args.after c.requires.after

abbrev better : List ℤ → List ℤ → ℤ → ℤ
better before after p = through before after p Zero -ℤ through before after p One

same : (b a b' a' : List ℤ) (p p' r : ℤ) → b' ≡ b → a' ≡ a → p' ≡ p → r ≡ better b' a' p' → r ≡ better b a p
same b a b' a' p p' r e f g h = h ∙ (ap (λ z. better z a' p') e ∙ (ap (λ z. better b z p') f ∙ ap (λ z. better b a z) g))

wide : (r : ℤ) → IsWithin 25818 r → to_z w32 (of_z w32 r) ≡ r
wide r h = omega (arith, ints)

pub returns : goal.returns
returns c = λ s k e.
    let step = c.args.step in let before = c.args.before in let after = c.args.after in
    c.from_extrinsic.ensures s k (stored step.input (within-more 638 32767 step.input (omega arith) step.input_bound) ∙ e)
    ∙ ap (λ z. cell_from z s k)
    (wide c.extrinsic.result c.extrinsic.ensures.range
    ∙ same before after (passed before) (passed after) step.parity (to_z w16 (of_z w16 step.parity)) c.extrinsic.result
    (passed-relative before c.requires.before) (passed-relative after c.requires.after)
    (stored step.parity (within-more 127 32767 step.parity (omega arith) step.parity_bound)) c.extrinsic.ensures.value)
