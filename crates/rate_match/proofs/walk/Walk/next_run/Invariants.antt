use Rattle.std.proofs.Common.{◌≡◌, ◌+◌, ◌%◌, []}
use Rattle.model_sender.specs.Selection.{holds_bit}
use Rattle.rate_match.specs.Cursor.{cursor_at}
use Rattle.rate_match.proofs.Walked.{walked}
use Rattle.rate_match.proofs.walk.Walk.next_run.Given as goal

-- no bit stands from the walk's place up to here
abbrev pub invariant-loop-place : goal.invariant-loop-place
invariant-loop-place l = record {
  same : l.self ≡ l.fn.self;
  at : l.cursor ≡ cursor_at l.ring.rows ((l.fn.self.cursor.n + l._place) % l.ring.size);
  none : walked (holds_bit l.ring.k l.ring.fill) l.fn.self.cursor.n l.ring.size l._place ≡ [];
}
