use Rattle.std.proofs.Common.{length, ap, ◌∙◌}
use Rattle.command_relay.proofs.HardBits.{hard_alone, length_bits}
use Rattle.command_relay.proofs.points.PointsConverter.push.Goals as goal

pub bits_in-requires : goal.bits_in-requires
bits_in-requires c =
    hard_alone c.args._header.now.kind c.args.m.now.g c.args.bytes.now c.requires.wanted c.requires.accepted

pub softs-requires : goal.softs-requires
softs-requires c =
    ap length (c.as_slice.ensures ∙ c.in_ok-bits.ensures)
    ∙ length_bits c.args.m.now c.args.bytes.now (hard_alone c.args._header.now.kind c.args.m.now.g c.args.bytes.now c.requires.wanted c.requires.accepted)
