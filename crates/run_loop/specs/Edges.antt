-- The edges of a run before and after it: what they tell, and their counts of faults.
use Rattle.std.specs.Prelude.{ℕ, ◌≤◌, List}
use Rattle.std.specs.declared.option.Option.{Option}
use Rattle.edge_io.specs.Edge.{AddsBytes, Rose, TakesBytes}
use Rattle.edge_io.specs.declared.edge.Source as source
use Rattle.edge_io.specs.declared.edge.Sink as sink
use Rattle.run_loop.specs.declared.status.SinkName.TheVariants.{Out, Report}
use Rattle.run_loop.specs.declared.status.Status.{Status}
use Rattle.run_loop.specs.declared.status.Status.TheVariants.{BadWords, ReadFault, WriteFault}

-- the bytes left in the source and held by the two sinks, where they are told, and the counts of their faults
pub record Edges : Type 0 where
  pub left : Option (List ℕ)
  pub out : Option (List ℕ)
  pub report : Option (List ℕ)
  pub reads : ℕ
  pub outs : ℕ
  pub reports : ℕ

abbrev pub told : (left out report : Option (List ℕ)) → (reads outs reports : ℕ) → Edges
told left out report reads outs reports =
    record { left = left; out = out; report = report; reads = reads; outs = outs; reports = reports }

-- what a source and two sinks tell
abbrev pub edges : {S D R : Type 0} → source.Ghosts S → sink.Ghosts D → sink.Ghosts R → S → D → R → Edges
edges s d r source out report =
    told (s.left source) (d.held out) (r.held report) (s.faults source) (d.faults out) (r.faults report)

-- which count rose, where the ending is a fault; the loop never refuses the words
abbrev pub Causes : Edges → Edges → Status → Type 0
Causes before now ReadFault = Rose before.reads now.reads
Causes before now (WriteFault Out) = Rose before.outs now.outs
Causes before now (WriteFault Report) = Rose before.reports now.reports
Causes before now (BadWords number place) = ⊥
Causes before now _ = Unit {0}

-- Where they are told, bytes were taken from the front of what was left, and bytes were added to what the
-- sinks held; and no count fell.
pub record HasMoved (before now : Edges) : Type 0 where
  pub left : TakesBytes before.left now.left
  pub out : AddsBytes before.out now.out
  pub report : AddsBytes before.report now.report
  pub reads : before.reads ≤ now.reads
  pub outs : before.outs ≤ now.outs
  pub reports : before.reports ≤ now.reports

-- no count rose
abbrev pub IsQuiet : Edges → Edges → Type 0
IsQuiet before now = (Rose before.reads now.reads → ⊥) × (Rose before.outs now.outs → ⊥)
    × (Rose before.reports now.reports → ⊥)
