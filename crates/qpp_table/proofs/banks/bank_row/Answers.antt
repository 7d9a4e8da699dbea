use Rattle.std.proofs.Common.{ℕ, ◌<◌, sym, ◌∙◌, subst}
use Rattle.qpp_table.proofs.QppWindows.{rows_same, bank_at-below, banks_differ, row_at-read, bank_at-read}
use Rattle.qpp_table.proofs.banks.bank_row.Goals as goal

pub returns-clause-one_row : goal.returns-clause-one_row
returns-clause-one_row c = λ u lu.
    rows_same c.args.q.now c.args.m c.args.j u c.args.t c.requires.windows c.requires.place lu c.requires.window
    ∙ sym (row_at-read c.args.q.now c.args.m c.args.t c.args.j c.size.result c.at-place.result c.size.ensures c.at-place.ensures)

pub returns-clause-below : goal.returns-clause-below
returns-clause-below c =
    subst (λ (n : ℕ). n < c.args.m)
    (sym (bank_at-read c.args.q.now c.args.m c.args.t c.args.j c.size.result c.at-place.result c.size.ensures c.at-place.ensures))
    (bank_at-below c.args.q.now c.args.m c.args.j c.args.t c.requires.windows c.requires.place c.requires.window)

pub returns-clause-apart : goal.returns-clause-apart
returns-clause-apart c = λ u lu differ e.
    differ (banks_differ c.args.q.now c.args.m c.args.j u c.args.t c.requires.windows c.requires.place lu c.requires.window
    (e ∙ bank_at-read c.args.q.now c.args.m c.args.t c.args.j c.size.result c.at-place.result c.size.ensures c.at-place.ensures))
