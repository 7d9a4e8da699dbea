use Rattle.std.proofs.Common.{◌∙◌, arith}
use Rattle.lte_bits.proofs.Unpacking.{byte_more}
use Rattle.lte_bits.proofs.packing.write_unpacked.Goals as goal

pub loop-i-preserved : goal.loop-i-preserved
loop-i-preserved c =
    byte_more c.args.bytes.now c.loop-i.bits _ _ c.loop-i.i c.from-byte.result _ _ c.loop-i-test.true (omega arith) (omega arith) c.from-byte.ensures
    (c.copy_from_slice.ensures.after ∙ c.row.ensures) (c.copy_from_slice-in-loop-i.ensures.after ∙ c.row-in-loop-i.ensures) c.loop-i.invariant
