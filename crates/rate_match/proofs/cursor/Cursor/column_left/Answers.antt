use Rattle.std.proofs.Common.{ℕ, ◌≡◌, ◌-◌, ◌*◌, ◌<◌, sym, ap, subst, ◌∙◌, arith}
use Rattle.model_sender.specs.CircularBuffer.{rows_of}
use Rattle.rate_match.specs.Cursor.{IsInColumn, cursor_at, order_of}
use Rattle.rate_match.specs.declared.cursor.Cursor.{Cursor}
use Rattle.rate_match.specs.declared.rings.Ring.{Ring}
use Rattle.rate_match.proofs.CursorSteps.{IsPlaced, placed, order-below}
use Rattle.rate_match.proofs.ColumnRuns.{few-first, few-later, first-run, later-run}
use Rattle.rate_match.proofs.cursor.Cursor.column_left.Goals as goal
use Rattle.rate_match.proofs.cursor.Cursor.column_left.Goals.{then-self-places, else-self-places}

here : (ring : Ring) (c : Cursor) → c.n < ring.size → c ≡ cursor_at ring.rows c.n → IsPlaced ring.k c
here ring c within is = placed ring.k ring.rows ring.size c ring.few ring.height ring.within within is

pub overflow_sub-places : goal.overflow_sub-places
overflow_sub-places c = let ring = c.args.ring in let h = here ring c.args.self c.requires.within c.requires.lawful in omega (arith, h.place, ring.height)

pub overflow_sub-places-else-self-places-2 : goal.overflow_sub-places-else-self-places-2
overflow_sub-places-else-self-places-2 c = let ring = c.args.ring in let h = here ring c.args.self c.requires.within c.requires.lawful in omega (arith, h.place, ring.height)

pub returns-clause-column : goal.returns-clause-column
returns-clause-column c =
    let ring = c.args.ring in
    let self = c.args.self in
    let r : ℕ = rows_of ring.k in
    let count : ℕ = c.min-2.result in
    let lawful : self ≡ cursor_at r self.n = c.requires.lawful ∙ ap (λ q. cursor_at q self.n) ring.height in
    let within : order_of r self.n < 32 * r = order-below r self.n (omega (arith, c.requires.within, ring.within)) in
    subst (λ q. IsInColumn q ring.k ring.fill self count) (sym ring.height) (
    elim c.if-self-places.branch [
      | then-self-places w ↦ first-run ring.k ring.fill self count lawful within (omega (arith, c.if-self-padding.false, ring.height))
          (omega (arith, w.if-self-places, ring.height)) (few-first r ring.rows self.by_rows w.div_ceil-column.result count c.if-self-places.column c.min.result
          (ring.size - self.n) c.args.most ring.height w.div_ceil-column.ensures w.column-is c.min.ensures c.min-2.ensures)
      | else-self-places w ↦ later-run ring.k ring.fill self count lawful within (omega (arith, c.if-self-padding.false, ring.height))
          (omega (arith, w.if-self-places, ring.height)) (few-later r ring.rows self.by_rows self.n w.div_ceil.result c.if-self-places.column w.saturating_sub-column.result
          count c.min.result (ring.size - self.n) c.args.most ring.height w.div_ceil.ensures w.saturating_sub-column.ensures w.column-is c.min.ensures c.min-2.ensures)
    ])
