use Rattle.std.proofs.Common.{ap, ◌∙◌}
use Rattle.window_rows.specs.Rows.{column}
use Rattle.lock_step.specs.Lanes.{border_at}
use Rattle.lock_step.proofs.StateRows.{set_eight, border-column}
use Rattle.lock_step.proofs.borders.put_borders.Goals as goal

pub returns-clause-lanes : goal.returns-clause-lanes
returns-clause-lanes g c = λ t lt.
    ap (column t) (set_eight c.args.m.now _ _ _ _ _ _ _ _ c.told-m)
    ∙ border-column t _ _ _ _ _ _ _ _ (border_at c.args.borders.now t) (c.put_numbers.ensures.borders t lt).eight
    (c.put_numbers.ensures.lanes t lt) (c.put_numbers-2.ensures.lanes t lt) (c.put_numbers-3.ensures.lanes t lt) (c.put_numbers-4.ensures.lanes t lt)
    (c.put_numbers-5.ensures.lanes t lt) (c.put_numbers-6.ensures.lanes t lt) (c.put_numbers-7.ensures.lanes t lt) (c.put_numbers-8.ensures.lanes t lt)
