use Rattle.std.proofs.Common.{◌≤◌, take}
use Rattle.edge_io.specs.Edge.{Adds}
use Rattle.run_loop.specs.Answer.{texts, lines}
use Rattle.run_loop.specs.Step.{parts_of}
use Rattle.run_loop.proofs.putting.put_all.Given as goal

abbrev pub invariant-loop-part : goal.invariant-loop-part
invariant-loop-part g l = record {
  out : Adds (g.D.Sink.held l.initial.out) (g.D.Sink.held l.out) (texts (take l.part-index (parts_of l.parts)));
  report : Adds (g.R.Sink.held l.initial.report) (g.R.Sink.held l.report) (lines (take l.part-index (parts_of l.parts)));
  outs : g.D.Sink.faults l.initial.out ≤ g.D.Sink.faults l.out;
  reports : g.R.Sink.faults l.initial.report ≤ g.R.Sink.faults l.report;
}
