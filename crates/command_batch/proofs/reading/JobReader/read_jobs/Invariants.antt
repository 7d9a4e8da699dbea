use Rattle.std.proofs.Common.{◌≡◌, ◌≤◌, ℕ, List, Some, All, length, true, vec_capacity}
use Rattle.edge_io.specs.Edge.{TakesBytes}
use Rattle.coded_stream.specs.Stream.{most_blocks}
use Rattle.command_batch.specs.Jobs.{blocks_in, IsJobOf}
use Rattle.command_batch.specs.Reading.{Came, Passes}
use Rattle.command_batch.proofs.reading.JobReader.read_jobs.Given as goal

abbrev pub invariant-loop : goal.invariant-loop
invariant-loop g l = record {
  live : l.self.reader.live ≡ true;
  limits : l.self.limits ≡ l.initial.self.limits;
  came : (input : List ℕ) → g.S.Source.left l.initial.source ≡ Some input →
      (left : List ℕ) × Came l.initial.self.reader l.self.reader input left (blocks_in l.jobs.items)
      (g.S.Source.left l.initial.source) (g.S.Source.left l.source);
  passes : Passes l.initial.self.reader l.self.reader (length l.jobs.items);
  count : length l.jobs.items ≡ l.counter;
  within : l.self.reader.blocks ≤ most_blocks;
  jobs : All (IsJobOf l.initial.self.limits l.initial.self.reader.header) l.jobs.items;
  room : l.most ≤ vec_capacity l.jobs;
  moved : TakesBytes (g.S.Source.left l.initial.source) (g.S.Source.left l.source);
  later : g.S.Source.faults l.initial.source ≤ g.S.Source.faults l.source;
}
