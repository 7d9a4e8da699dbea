use Rattle.std.proofs.Common.{ap, ◌∙◌}
use Rattle.model_sender.specs.ConstituentCoder.{parities}
use Rattle.turbo_encode.specs.Fillers.{nulls_first}
use Rattle.turbo_encode.proofs.FilledCells.{nulls-filled}
use Rattle.turbo_encode.proofs.constituent.code.Goals as goal

pub returns-clause-first : goal.returns-clause-first
returns-clause-first c = c.write_nulls.ensures ∙ ap (nulls_first c.args.fill) c.write_parities-ends.ensures.first ∙ nulls-filled c.args.fill (parities c.args.bits.now)
