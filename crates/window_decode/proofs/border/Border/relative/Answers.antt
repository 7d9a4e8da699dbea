use Rattle.std.proofs.Common.{◌≡◌, ℤ, ◌-ℤ◌, ap, sym, ◌∙◌, subst, FitsSigned, to_z, of_z, w16, rules}
use Rattle.std.proofs.lemmas.Int.{to_z-of_z}
use Rattle.model_sender.specs.ConstituentCoder.{State, zero_state}
use Rattle.model_receiver.specs.Borders.{Border, number_for, IsBorder}
use Rattle.window_decode.proofs.EightStates.{border_from, same_eight}
use Rattle.window_decode.proofs.border.Border.relative.Goals as goal

-- a result that fits
fitting : (f : State → ℤ) (r : ℤ) (s t : State) → FitsSigned w16 r → r ≡ f s → s ≡ t → to_z w16 (of_z w16 r) ≡ f t
fitting f r s t h e k = to_z-of_z w16 r h ∙ (e ∙ ap f k)

pub returns : goal.returns
returns c =
    let f : State → ℤ = λ s. number_for c.args.metrics.now s -ℤ number_for c.args.metrics.now zero_state in
    same_eight f _ _ _ _ _ _ _ _
    (fitting f c.above_zero.result c.from_bits.result _ (search rules) c.above_zero.ensures c.from_bits.ensures)
    (fitting f c.above_zero-2.result c.from_bits-2.result _ (search rules) c.above_zero-2.ensures c.from_bits-2.ensures)
    (fitting f c.above_zero-3.result c.from_bits-3.result _ (search rules) c.above_zero-3.ensures c.from_bits-3.ensures)
    (fitting f c.above_zero-4.result c.from_bits-4.result _ (search rules) c.above_zero-4.ensures c.from_bits-4.ensures)
    (fitting f c.above_zero-5.result c.from_bits-5.result _ (search rules) c.above_zero-5.ensures c.from_bits-5.ensures)
    (fitting f c.above_zero-6.result c.from_bits-6.result _ (search rules) c.above_zero-6.ensures c.from_bits-6.ensures)
    (fitting f c.above_zero-7.result c.from_bits-7.result _ (search rules) c.above_zero-7.ensures c.from_bits-7.ensures)
    (fitting f c.above_zero-8.result c.from_bits-8.result _ (search rules) c.above_zero-8.ensures c.from_bits-8.ensures)

pub invariant_of-result : goal.invariant_of-result
invariant_of-result c = subst (λ (b : Border). IsBorder b) (sym (returns c)) (border_from (number_for c.args.metrics.now) c.requires.near)
