use Rattle.std.proofs.Common.{arith, inl, inr}
use Rattle.std.proofs.lemmas.Bool.{cases_lt}
use Rattle.window_rows.proofs.Columns.{within-past}
use Rattle.lane_banks.proofs.cells.split.Goals as goal

pub loop-b-init : goal.loop-b-init
loop-b-init g c = record {
  values_long = c.told-values;
  sums_long = c.told-sums;
  value = λ k lt. absurd (omega (arith, lt));
  sum = λ k lt. absurd (omega (arith, lt));
  within = λ k lt. absurd (omega (arith, lt));
}

pub returns-clause-within : goal.returns-clause-within
returns-clause-within g c = λ b.
    elim (cases_lt b g.row.N) [
      | inl lt ↦ c.loop-b.invariant.within b (omega (arith, c.loop-b-test.false, lt))
      | inr le ↦ within-past 511 c.loop-b.values b (omega (arith, c.loop-b.invariant.values_long, le))
    ]
