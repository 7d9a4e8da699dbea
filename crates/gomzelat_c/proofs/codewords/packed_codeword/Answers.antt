use Rattle.std.proofs.Common.{length, ap, ◌∙◌}
use Rattle.gomzelat_c.proofs.PackedLength.{packed_long}
use Rattle.gomzelat_c.proofs.codewords.packed_codeword.Goals as goal

pub returns-clause-long : goal.returns-clause-long
returns-clause-long c =
    packed_long c.pack.result c.as_slice.result.now c.args.sending.now.m.g (ap length c.as_slice.ensures ∙ c.in_ok-bits.ensures.long) c.pack.ensures
