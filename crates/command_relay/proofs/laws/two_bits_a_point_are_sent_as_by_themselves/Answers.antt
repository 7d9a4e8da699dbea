use Rattle.command_relay.proofs.TwoBits.{same_text}
use Rattle.command_relay.proofs.laws.two_bits_a_point_are_sent_as_by_themselves.Goals as goal

pub returns : goal.returns
returns c n h block number m bytes some two is one = same_text n h block number m bytes some two is one
