use Rattle.std.proofs.Common.{ℕ, ◌+◌, ap, ◌∙◌, arith}
use Rattle.rate_match.proofs.SizeSteps.{places-most}
use Rattle.rate_match.proofs.CursorSteps.{made, place-below, next_row, next_column, column-left}
use Rattle.rate_match.proofs.cursor.Cursor.further.Goals as goal

pub overflow_add-below : goal.overflow_add-below
overflow_add-below c =
    let ring = c.args.ring in
    omega (arith, place-below ring.rows c.args.self c.requires.lawful (omega (arith, c.requires.next, c.requires.within)), places-most ring.k ring.few, ring.height)

pub returns-then-below-ring : goal.returns-then-below-ring
returns-then-below-ring c = next_row c.args.ring.rows c.args.n c.args.self c.requires.lawful c.requires.next c.if-below-ring.true

pub returns : goal.returns
returns c =
    let next : ℕ = c.args.self.column + 1 in
    ap (λ (p : ℕ). made c.args.n next p) c.column.ensures.value
    ∙ next_column c.args.ring.rows c.args.n c.args.self c.requires.lawful c.requires.next c.requires.within c.if-below-ring.false

pub column-requires : goal.column-requires
column-requires c = column-left c.args.ring.rows c.args.n c.args.self c.requires.lawful c.requires.next c.requires.within c.if-below-ring.false
