use Rattle.std.proofs.Common.{ap, sym, ◌∙◌}
use Rattle.atomic_table.proofs.Lists.{at_index}
use mathlib.Core.Option.{some}
use Rattle.tb_pipeline.proofs.slots.swap_at.Goals as goal

pub returns-clause-value : goal.returns-clause-value
returns-clause-value g c =
    at_index c.args.slots.now c.args.number c.index-slots-number.result c.requires c.index-slots-number.is ∙ ap some (c.index-slots-number.is ∙ sym c.replace.ensures.value)
