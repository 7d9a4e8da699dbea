use Rattle.std.proofs.Common.{length, ap, ◌∙◌, arith}
use Rattle.std.proofs.lemmas.List.{length-take}
use Rattle.lte_bits.specs.Packing.{unpacked}
use Rattle.soft_channel.proofs.Lengths.{length_noisy}
use Rattle.soft_channel.specs.Channel.{strength_of, transmission_over}
use Rattle.gomzelat_c.proofs.channel.write_noisy.Goals as goal

pub write_softs-requires : goal.write_softs-requires
write_softs-requires c =
    let own = c.in_ok-channel.channel in
    omega (
      arith,
      ap length (c.as_slice-2.ensures ∙ c.in_ok-softs.ensures),
      length_noisy (strength_of own) (transmission_over own c.args.block c.args.number) c.as_slice.result.now,
      ap length (c.as_slice.ensures ∙ c.in_ok-bits.ensures),
      length-take c.args.count (unpacked c.args.bits.now),
      c.in_ok-channel.ensures.room,
    )
