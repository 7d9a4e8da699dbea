use Rattle.std.proofs.Common.{◌≤◌, map, take}
use Rattle.edge_io.specs.Edge.{Adds}
use Rattle.run_loop.specs.FaultLine.{joined}
use Rattle.run_loop.proofs.fault_line.write_each.Given as goal

abbrev pub invariant-loop-piece : goal.invariant-loop-piece
invariant-loop-piece g l = record {
  added : Adds (g.R.Sink.held l.initial.report) (g.R.Sink.held l.report) (joined (take l.piece-index (map (λ p. p.now) l.pieces)));
  later : g.R.Sink.faults l.initial.report ≤ g.R.Sink.faults l.report;
}
