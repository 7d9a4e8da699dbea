use Rattle.std.proofs.Common.{◌*◌, ◌≡◌, length, sym, ap, ◌∙◌, subst, List, arith}
use Rattle.std.proofs.lemmas.List.{length-take-le}
use Rattle.lte_bits.specs.declared.bit.Bit.{Bit}
use Rattle.model_sender.specs.Segmentation.{Plan}
use Rattle.segmentation.specs.Plans.{IsPlan}
use Rattle.segmentation.proofs.WholeBits.{length-whole}
use Rattle.segmentation.proofs.payloads.uncut.Goals as goal

pub slice_bounds-pack-end : goal.slice_bounds-pack-end
slice_bounds-pack-end c =
    let plan : Plan = c.args.plan.now in
    let bytes : c.plan.inside.bytes ≡ plan.bytes = ap (λ (p : Plan). p.bytes) c.plan.view_is in
    let long = ap (λ (xs : List Bit). length xs) (c.as_slice-bits.ensures.value ∙ c.in_ok-whole.ensures)
    ∙ length-whole plan c.args.blocks.now (subst IsPlan c.plan.view_is c.plan.invariant) c.requires in
    sym (length-take-le (8 * c.plan.inside.bytes) c.as_slice-bits.result.now (omega (arith, long, bytes)))
