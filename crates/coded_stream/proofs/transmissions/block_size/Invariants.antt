use Rattle.std.proofs.Common.{◌≡◌, ◌≤◌, ◌*◌, take}
use Rattle.coded_stream.specs.Blocks.{lengths, block_size}
use Rattle.coded_stream.specs.Shown.{header_of}
use Rattle.coded_stream.proofs.transmissions.block_size.Given as goal

abbrev pub invariant-loop-turn : goal.invariant-loop-turn
invariant-loop-turn l = record {
  total : l.total ≡ block_size l.header.kind (take l.turn (lengths (header_of l.header)));
  few : l.total ≤ l.turn * 1000000;
}
