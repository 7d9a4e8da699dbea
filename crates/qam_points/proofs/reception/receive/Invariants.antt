use Rattle.std.proofs.Common.{◌≡◌, ℕ, ◌<◌, ◌≤◌}
use Rattle.qam_points.specs.Reception.{received_point, sent_point}
use Rattle.qam_points.proofs.reception.receive.Given as goal

abbrev pub invariant-loop-s : goal.invariant-loop-s
invariant-loop-s l = record {
  written : (k : ℕ) → k < l.s → sent_point l.points k ≡ received_point l.amp l.terms l.initial.points k;
  rest : (k : ℕ) → l.s ≤ k → sent_point l.points k ≡ sent_point l.initial.points k;
}
