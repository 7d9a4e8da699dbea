use Rattle.std.proofs.Common.{◌≡◌, List, ap, ◌∙◌, arith}
use Rattle.std.specs.Int.{div_ceil}
use Rattle.lte_bits.specs.Lists.{resized}
use Rattle.lte_bits.specs.declared.bit.Bit.{Bit}
use Rattle.lte_bits.specs.declared.bit.Bit.TheVariants.{Zero}
use Rattle.gomzelat_c.proofs.FirstBits.{first_bits}
use Rattle.gomzelat_c.proofs.buffers.bits_of.Goals as goal

pub returns : goal.returns
returns c =
    let n = c.div_ceil.result in
    let is : n ≡ div_ceil c.args.count 8 = c.div_ceil.ensures in
    c.in_ok-resize.ensures.ok
    ∙ ap (λ (bits : List Bit). resized bits c.args.count Zero) c.in_ok-bits.ensures
    ∙ first_bits c.args.count n c.args.bytes.now (omega (arith, is)) (omega (arith, is, c.requires))
