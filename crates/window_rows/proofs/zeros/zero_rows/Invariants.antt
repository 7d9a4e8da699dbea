use Rattle.std.proofs.Common.{◌≡◌, pos, replicate}
use Rattle.window_rows.proofs.zeros.zero_rows.Given as goal

abbrev pub invariant-loop-j : goal.invariant-loop-j
invariant-loop-j g l = l.rows.items ≡ replicate l._j (replicate g.row.N (pos 0))
