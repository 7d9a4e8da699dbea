use Rattle.std.proofs.Common.{◌≡◌, ℕ, ◌+◌, ◌%◌, ◌<◌, sym, ap, ◌∙◌, arith}
use Rattle.std.proofs.Math.Nat.{mod_self, mod-eq_of_lt}
use Rattle.model_sender.specs.CircularBuffer.{rows_of}
use Rattle.model_sender.proofs.SelectionLaws.{rows-bounds}
use Rattle.rate_match.specs.Cursor.{cursor_at}
use Rattle.rate_match.proofs.CursorSteps.{begins, order-zero, order-begins}
use Rattle.rate_match.proofs.cursor.Cursor.next.Goals as goal

some : (k r : ℕ) → r ≡ rows_of k → 0 < r
some k r height = omega (arith, height, (rows-bounds k).0)

-- short of the end, the place is not reduced
short : (r m size : ℕ) → m < size → cursor_at r m ≡ cursor_at r (m % size)
short r m size within = ap (cursor_at r) (sym (mod-eq_of_lt within))

pub returns-then-n-ring : goal.returns-then-n-ring
returns-then-n-ring c =
    let ring = c.args.ring in
    let filled : 0 < ring.rows = some ring.k ring.rows ring.height in
    let round : (c.args.self.n + 1) % ring.size ≡ 0 = ap (λ (m : ℕ). m % ring.size) c.if-n-ring.true ∙ mod_self ring.size in
    c.first.ensures ∙ begins ring.rows 0 filled (order-zero ring.rows filled) ∙ ap (cursor_at ring.rows) (sym round)

pub returns-then-n-first : goal.returns-then-n-first
returns-then-n-first c =
    let ring = c.args.ring in
    let n : ℕ = c.args.self.n + 1 in
    let filled : 0 < ring.rows = some ring.k ring.rows ring.height in
    c.first-then-n-first.ensures ∙ begins ring.rows n filled (order-begins ring.rows n c.if-n-first.true)
    ∙ short ring.rows n ring.size (omega (arith, c.requires.within, c.if-n-ring.false))

pub returns-else-n-first-2 : goal.returns-else-n-first-2
returns-else-n-first-2 c =
    let ring = c.args.ring in
    c.further.ensures ∙ short ring.rows (c.args.self.n + 1) ring.size (omega (arith, c.requires.within, c.if-n-ring.false))
