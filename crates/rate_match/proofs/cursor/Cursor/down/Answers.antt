use Rattle.std.proofs.Common.{◌+◌, ◌*◌, ap, ◌∙◌, arith}
use Rattle.rate_match.proofs.CursorSteps.{made, order-below}
use Rattle.rate_match.proofs.ColumnRuns.{down-at}
use Rattle.rate_match.proofs.cursor.Cursor.down.Goals as goal

pub returns : goal.returns
returns c =
    let ring = c.args.ring in
    let self = c.args.self in
    ap (λ j. made (self.n + c.args.i) self.column (self.by_rows + 32 * j)) c.rows_down.ensures
    ∙ down-at ring.rows self c.args.i c.requires.lawful (order-below ring.rows self.n (omega (arith, c.requires.within, ring.within, ring.height))) c.requires.column
