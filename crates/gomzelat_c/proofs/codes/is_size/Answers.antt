use Rattle.std.proofs.Common.{◌∙◌}
use Rattle.gomzelat_c.proofs.OneShape.{size_is}
use Rattle.gomzelat_c.proofs.codes.is_size.Goals as goal

pub returns-clause-value : goal.returns-clause-value
returns-clause-value c = c.is_some.ensures ∙ size_is c.args.k c.qpp.result c.qpp.ensures.some
