use Rattle.std.proofs.Common.{◌≡◌, replicate}
use Rattle.window_rows.proofs.zeros.zero_banks.Given as goal

abbrev pub invariant-loop-j : goal.invariant-loop-j
invariant-loop-j g l = l.rows.items ≡ replicate l._j (replicate g.row.N 0)
