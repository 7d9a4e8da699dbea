use Rattle.std.proofs.Common.{◌≡◌}
use Rattle.coded_stream.specs.Opening.{transmissions_in}
use Rattle.coded_stream.proofs.HeaderTransmissionSteps.{PassTo}
use Rattle.coded_stream.proofs.header_transmissions.read_header_transmissions.Given as goal

abbrev pub invariant-loop-index : goal.invariant-loop-index
invariant-loop-index l = record {
  held : l.sends ≡ transmissions_in l.version l.unit l.index l.bytes;
  rest : PassTo l.version l.count l.index l.place l.bytes;
}
