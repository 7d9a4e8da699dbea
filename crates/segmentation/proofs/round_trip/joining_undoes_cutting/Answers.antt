use Rattle.std.proofs.Common.{◌*◌, ◌++◌, ◌∙◌, ℕ, List, length, take, sym, ap, subst}
use Rattle.std.proofs.Math.Seq.{take-append_seam}
use Rattle.lte_bits.specs.Packing.{packed, unpacked}
use Rattle.lte_bits.specs.declared.bit.Bit.{Bit}
use Rattle.lte_bits.proofs.Unpacking.{length-unpacked}
use Rattle.model_sender.specs.CheckBits.{IsMultiple, crc, crc24a}
use Rattle.model_sender.proofs.CheckBitLaws.{crc24a-monic, crc-is}
use Rattle.segmentation.proofs.CarriedWhole.{whole-blocks}
use Rattle.segmentation.proofs.PackedAgain.{packed-unpacked}
use Rattle.segmentation.proofs.round_trip.joining_undoes_cutting.Goals as goal

pub returns-clause-payload : goal.returns-clause-payload
returns-clause-payload c payload some few small =
    let bits : List Bit = unpacked payload in
    ap (λ (xs : List Bit). packed (take (8 * length payload) xs)) (whole-blocks payload some few)
    ∙ (ap (λ (n : ℕ). packed (take n (bits ++ crc crc24a bits))) (sym (length-unpacked payload))
    ∙ (ap packed (take-append_seam bits (crc crc24a bits)) ∙ packed-unpacked payload small))

pub returns-clause-holds : goal.returns-clause-holds
returns-clause-holds c payload some few =
    let bits : List Bit = unpacked payload in
    subst (λ (xs : List Bit). IsMultiple crc24a xs) (sym (whole-blocks payload some few)) (crc-is crc24a bits crc24a-monic).multiple
