use Rattle.command_relay.proofs.HardBits.{hard_alone}
use Rattle.command_relay.proofs.channel.NoiseChannelConverter.push.Goals as goal

pub bits_in-requires : goal.bits_in-requires
bits_in-requires c =
    hard_alone c.args._header.now.kind c.args.m.now.g c.args.bytes.now c.requires.wanted c.requires.accepted
