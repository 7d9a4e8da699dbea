use Rattle.std.proofs.Common.{◌≡◌, ◌<◌, ◌∙◌, arith}
use Rattle.rate_match.specs.Cursor.{cursor_at}
use Rattle.rate_match.specs.declared.cursor.Cursor.{Cursor}
use Rattle.rate_match.specs.declared.rings.Ring.{Ring}
use Rattle.rate_match.proofs.CursorSteps.{IsPlaced, placed, third-first, third-later}
use Rattle.rate_match.proofs.cursor.Cursor.spot.Goals as goal

here : (ring : Ring) (c : Cursor) → c.n < ring.size → c ≡ cursor_at ring.rows c.n → IsPlaced ring.k c
here ring c within is = placed ring.k ring.rows ring.size c ring.few ring.height ring.within within is

pub padded_spot-requires-clause-within : goal.padded_spot-requires-clause-within
padded_spot-requires-clause-within c = let ring = c.args.ring in let h = here ring c.args.self c.requires.within c.requires.lawful in omega (arith, h.place, ring.height)

pub padded_spot-requires-then-self-eq0-clause-within : goal.padded_spot-requires-then-self-eq0-clause-within
padded_spot-requires-then-self-eq0-clause-within c = let ring = c.args.ring in let h = here ring c.args.self c.requires.within c.requires.lawful in omega (arith, h.place, ring.height)

pub overflow_add-self : goal.overflow_add-self
overflow_add-self c = let ring = c.args.ring in let h = here ring c.args.self c.requires.within c.requires.lawful in omega (arith, h.place, h.few)

pub overflow_add-self-else-self-places-2 : goal.overflow_add-self-else-self-places-2
overflow_add-self-else-self-places-2 c = let ring = c.args.ring in let h = here ring c.args.self c.requires.within c.requires.lawful in omega (arith, h.place, h.few)

pub padded_spot-requires-else-self-places-2-clause-within : goal.padded_spot-requires-else-self-places-2-clause-within
padded_spot-requires-else-self-places-2-clause-within c = let ring = c.args.ring in let h = here ring c.args.self c.requires.within c.requires.lawful in
    omega (arith, h.place, ring.height, c.if-self-places-2.false)

pub returns-then-self-places-2-clause-spot : goal.returns-then-self-places-2-clause-spot
returns-then-self-places-2-clause-spot c =
    let ring = c.args.ring in
    let self = c.args.self in
    let h = here ring self c.requires.within c.requires.lawful in
    c.padded_spot-then-self-places-2.ensures.spot
    ∙ third-first ring.k ring.fill self.n self.by_rows (omega (arith, ring.height, c.if-self-places.false)) c.if-self-eq0.false h.reads (omega (arith, ring.height, c.if-self-places-2.true))

pub returns-else-self-places-2-clause-spot : goal.returns-else-self-places-2-clause-spot
returns-else-self-places-2-clause-spot c =
    let ring = c.args.ring in
    let self = c.args.self in
    let h = here ring self c.requires.within c.requires.lawful in
    c.padded_spot-else-self-places-2.ensures.spot
    ∙ third-later ring.k ring.fill self.n self.by_rows (omega (arith, ring.height, c.if-self-places.false)) c.if-self-eq0.false h.reads (omega (arith, ring.height, h.place, c.if-self-places-2.false))
