use Rattle.std.proofs.Common.{◌≡◌, ◌≢◌, ◌<◌, length, get_or-set_other, get_or-set_same, below_more, sym, ◌∙◌, arith}
use Rattle.std.proofs.lemmas.List.{ext_get_or, get_or-map, length-map}
use Rattle.lte_bits.specs.Bits.{cell_of}
use Rattle.lte_bits.specs.declared.bit.Bit.TheVariants.{Zero}
use Rattle.lte_bits.specs.declared.bit.Cell.TheVariants.{Null}
use Rattle.turbo_encode.proofs.cells.write_cells.Goals as goal

pub loop-i-preserved : goal.loop-i-preserved
loop-i-preserved c =
    let bits = c.args.bits.now in
    let i = c.loop-i.i in
    below_more _ _
    (λ k h. let ne : k ≢ i = omega arith in rw get_or-set_other (c.loop-i.invariant k h))
    (let lt : i < length c.loop-i.cells = omega arith in
    let within : i < length bits = omega (arith, c.requires) in
    rw get_or-set_same (c.from.ensures ∙ sym (get_or-map cell_of bits i Zero Null within)))

pub returns : goal.returns
returns c =
    let bits = c.args.bits.now in
    let long : length c.loop-i.cells ≡ length bits = omega (arith, c.requires) in
    ext_get_or Null _ _ (long ∙ sym (length-map bits cell_of))
    (λ k lt. c.loop-i.invariant k (omega (arith, c.loop-i-test.false, lt)))
