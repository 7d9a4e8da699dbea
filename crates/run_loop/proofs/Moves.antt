-- What a run moved, step by step.
use Rattle.std.proofs.Common.{◌≡◌, ◌≤◌, ℕ, List, take, Ok, Err, subst, sym, arith}
use Rattle.std.specs.declared.option.Option.{Option}
use Rattle.std.specs.declared.result.Result.{Result}
use Rattle.edge_io.specs.Edge.{AddsBytes, TakesBytes}
use Rattle.edge_io.proofs.Known.{adds_bytes_then, adds_no_bytes, takes_bytes_then}
use Rattle.run_loop.specs.Answer.{Part, texts, lines}
use Rattle.run_loop.specs.Edges.{Edges, HasMoved}
use Rattle.run_loop.specs.FaultLine.{AddsLine}
use Rattle.run_loop.specs.Puts.{HasSinkCause, Puts, PutsEach}
use Rattle.run_loop.specs.declared.status.SinkName.{SinkName}
use Rattle.run_loop.specs.declared.status.SinkName.TheVariants.{Out, Report}

-- a round was read
pub moved_reading : (before mid : Edges) (left : Option (List ℕ)) (reads : ℕ) → HasMoved before mid → TakesBytes mid.left left → mid.reads ≤ reads →
    HasMoved before (record mid { left = left; reads = reads })
moved_reading before mid left reads moved took later = record {
  left = takes_bytes_then before.left mid.left left moved.left took;
  out = moved.out;
  report = moved.report;
  reads = omega (arith, moved.reads, later);
  outs = moved.outs;
  reports = moved.reports;
}

-- what putting adds, and the counts after it
record IsPut (out0 out1 report0 report1 : Option (List ℕ)) : Type 0 where
  out : AddsBytes out0 out1
  report : AddsBytes report0 report1

unmoved : (old new : Option (List ℕ)) → new ≡ old → AddsBytes old new
unmoved old new same = let P : Option (List ℕ) → Type 0 = λ o. AddsBytes old o in subst P (sym same) (adds_no_bytes old)

is_put : (out0 out1 report0 report1 : Option (List ℕ)) (text line : List ℕ) (result : Result (Unit {0}) SinkName) → Puts out0 out1 report0 report1 text line result →
    IsPut out0 out1 report0 report1
is_put out0 out1 report0 report1 text line (Ok _) put = record { out = (text, put.0); report = (line, put.1) }
is_put out0 out1 report0 report1 text line (Err Out) put = record { out = (take put.0.0 text, put.0.1); report = unmoved report0 report1 put.1 }
is_put out0 out1 report0 report1 text line (Err Report) put = record { out = (text, put.0); report = (take put.1.0 line, put.1.1) }

is_put_each : (out0 out1 report0 report1 : Option (List ℕ)) (parts : List Part) (result : Result (Unit {0}) SinkName) → PutsEach out0 out1 report0 report1 parts result →
    IsPut out0 out1 report0 report1
is_put_each out0 out1 report0 report1 parts (Ok _) put = record { out = (texts parts, put.0); report = (lines parts, put.1) }
is_put_each out0 out1 report0 report1 parts (Err Out) (front, after, p, n, split, added, told, some) = record { out = (_, added); report = (_, told) }
is_put_each out0 out1 report0 report1 parts (Err Report) (front, after, p, n, split, added, told, some) = record { out = (_, added); report = (_, told) }

moved_putting : (before mid : Edges) (out report : Option (List ℕ)) (outs reports : ℕ) (result : Result (Unit {0}) SinkName) → HasMoved before mid → IsPut mid.out out mid.report report →
    HasSinkCause mid.outs outs mid.reports reports result → HasMoved before (record mid { out = out; report = report; outs = outs; reports = reports })
moved_putting before mid out report outs reports result moved put cause = record {
  left = moved.left;
  out = adds_bytes_then before.out mid.out out moved.out put.out;
  report = adds_bytes_then before.report mid.report report moved.report put.report;
  reads = moved.reads;
  outs = omega (arith, moved.outs, cause.out_later);
  reports = omega (arith, moved.reports, cause.report_later);
}

-- a text and a line were put, or part of them
pub moved_put : (before mid : Edges) (out report : Option (List ℕ)) (outs reports : ℕ) (text line : List ℕ) (result : Result (Unit {0}) SinkName) → HasMoved before mid →
    Puts mid.out out mid.report report text line result → HasSinkCause mid.outs outs mid.reports reports result →
    HasMoved before (record mid { out = out; report = report; outs = outs; reports = reports })
moved_put before mid out report outs reports text line result moved put cause =
    moved_putting before mid out report outs reports result moved (is_put mid.out out mid.report report text line result put) cause

-- the same of parts
pub moved_put_each : (before mid : Edges) (out report : Option (List ℕ)) (outs reports : ℕ) (parts : List Part) (result : Result (Unit {0}) SinkName) → HasMoved before mid →
    PutsEach mid.out out mid.report report parts result → HasSinkCause mid.outs outs mid.reports reports result →
    HasMoved before (record mid { out = out; report = report; outs = outs; reports = reports })
moved_put_each before mid out report outs reports parts result moved put cause =
    moved_putting before mid out report outs reports result moved (is_put_each mid.out out mid.report report parts result put) cause

-- a fault line was written, or part of it
pub moved_line : (before mid : Edges) (report : Option (List ℕ)) (reports : ℕ) (line : List ℕ) (start : ℕ) → HasMoved before mid → AddsLine mid.report report line start reports →
    mid.reports ≤ reports → HasMoved before (record mid { report = report; reports = reports })
moved_line before mid report reports line start moved told later = record {
  left = moved.left;
  out = moved.out;
  report = adds_bytes_then before.report mid.report report moved.report (take told.front.0 line, told.front.1);
  reads = moved.reads;
  outs = moved.outs;
  reports = omega (arith, moved.reports, later);
}
