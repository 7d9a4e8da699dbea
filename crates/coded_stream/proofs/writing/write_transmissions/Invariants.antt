use Rattle.std.proofs.Common.{◌≤◌, flat_map, take}
use Rattle.edge_io.specs.Edge.{Adds}
use Rattle.coded_stream.specs.Header.{transmission_text}
use Rattle.coded_stream.proofs.writing.write_transmissions.Given as goal

abbrev pub invariant-loop-index : goal.invariant-loop-index
invariant-loop-index g l = record {
  added : Adds (g.D.Sink.held l.initial.sink) (g.D.Sink.held l.sink) (flat_map (transmission_text l.header.version) (take l.index l.header.sends));
  later : g.D.Sink.faults l.initial.sink ≤ g.D.Sink.faults l.sink;
}
