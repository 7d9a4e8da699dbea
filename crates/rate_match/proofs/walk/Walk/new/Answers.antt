use Rattle.std.proofs.Common.{ℕ, List, ap, ◌∙◌}
use Rattle.model_sender.specs.Selection.{bits_from, holds_bit, repeated}
use Rattle.rate_match.specs.declared.cursor.Cursor.{Cursor}
use Rattle.rate_match.proofs.Walked.{walked-reduced}
use Rattle.rate_match.proofs.walk.Walk.new.Goals as goal

pub returns-clause-places : goal.returns-clause-places
returns-clause-places c = λ e.
    let ring = c.args.ring in
    ap (λ (n : ℕ). repeated (bits_from (holds_bit ring.k ring.fill) n ring.size) e) (ap (λ (c : Cursor). c.n) c.at.ensures)
    ∙ ap (λ (v : List ℕ). repeated v e) (walked-reduced (holds_bit ring.k ring.fill) c.args.start ring.size ring.size)
