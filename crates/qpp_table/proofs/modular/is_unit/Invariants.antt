use Rattle.std.proofs.Common.{ℕ}
use Rattle.std.specs.Int.{IsGcd}
use Rattle.qpp_table.proofs.Units.{IsReached}
use Rattle.qpp_table.proofs.modular.is_unit.Given as goal

-- both numbers are multiples of f modulo k, and have the divisors of k and f
abbrev pub invariant-loop-b : goal.invariant-loop-b
invariant-loop-b l = record {
  first : IsReached l.k l.f l.a;
  second : IsReached l.k l.f l.b;
  divisors : (g : ℕ) → IsGcd l.a l.b g → IsGcd l.k l.f g;
}

abbrev pub decreases-loop-b : goal.decreases-loop-b
decreases-loop-b l = l.b
