use Rattle.std.proofs.Common.{◌≡◌, ◌≤◌, ℕ, List, take, Some}
use Rattle.edge_io.specs.Edge.{TakesBytes}
use Rattle.coded_stream.specs.Blocks.{lengths, block_size, AreTransmissions}
use Rattle.coded_stream.specs.Shown.{header_of}
use Rattle.coded_stream.proofs.Sent.{IsMidway}
use Rattle.coded_stream.proofs.transmissions.read_transmissions.Given as goal

abbrev pub invariant-loop-turn : goal.invariant-loop-turn
invariant-loop-turn g l = record {
  read : l.read ≡ block_size l.header.kind (take l.turn (lengths (header_of l.header)));
  told : (payload : ℕ) (input : List ℕ) → g.S.Source.left l.initial.source ≡ Some input →
      IsMidway l.header.kind l.start payload (lengths (header_of l.header)) l.turn (take l.read l.into) input (g.S.Source.left l.source);
  taken : AreTransmissions l.header.kind (take l.turn (lengths (header_of l.header))) (take l.read l.into);
  moved : TakesBytes (g.S.Source.left l.initial.source) (g.S.Source.left l.source);
  later : g.S.Source.faults l.initial.source ≤ g.S.Source.faults l.source;
}
