use Rattle.std.proofs.Common.{refl, sym, ◌∙◌, arith}
use Rattle.rate_match.proofs.CursorSteps.{placed}
use Rattle.rate_match.proofs.ColumnRuns.{run-column, run-made}
use Rattle.rate_match.proofs.cursor.Cursor.run.Goals as goal

pub returns-clause-run : goal.returns-clause-run
returns-clause-run c =
    let ring = c.args.ring in
    run-made ring.k ring.fill ring.size c.args.self _ ring.rows c.column_left.result ring.height c.column_left.ensures.column c.column_left.ensures.within c.requires.within ring.within
    (sym c.spot.ensures.spot ∙ c.in_ok-first.was) refl c.max.ensures

pub returns-clause-column : goal.returns-clause-column
returns-clause-column c =
    let ring = c.args.ring in
    let self = c.args.self in
    let at = placed ring.k ring.rows ring.size self ring.few ring.height ring.within c.requires.within c.requires.lawful in
    run-column ring.rows ring.k ring.fill self c.max.result c.column_left.result c.column_left.ensures.column c.max.ensures (omega (arith, at.place, ring.height))
