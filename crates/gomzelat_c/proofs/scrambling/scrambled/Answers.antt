use Rattle.std.proofs.Common.{◌≡◌, length, refl, sym, ap, ◌∙◌}
use Rattle.std.specs.List.{length_refill}
use Rattle.gomzelat_c.proofs.PackedLength.{packed_long}
use Rattle.gomzelat_c.proofs.SignalLengths.{length-first}
use Rattle.gomzelat_c.proofs.scrambling.scrambled.Goals as goal

pub returns-clause-long : goal.returns-clause-long
returns-clause-long c =
    let bits = c.in_ok-bits.bits in
    let long : length c.as_slice.result.now ≡ c.args.count =
    ap length c.as_slice.ensures
    ∙ sym (length_refill (length bits) bits c.scramble_bits.new.bits refl)
    ∙ ap length c.in_ok-bits.ensures
    ∙ length-first c.args.count c.args.bytes.now c.requires
    in
    packed_long c.pack.result c.as_slice.result.now c.args.count long c.pack.ensures
