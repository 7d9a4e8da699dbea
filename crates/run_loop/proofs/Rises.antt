-- Counts that rose, seen over a longer time.
use Rattle.std.proofs.Common.{ℕ, ◌≤◌, List, Err, inl, inr, refl, arith}
use Rattle.std.proofs.lemmas.Bool.{cases_lt}
use Rattle.std.specs.declared.option.Option.{Option}
use Rattle.edge_io.specs.Edge.{Rose}
use Rattle.run_loop.specs.Edges.{Edges, Causes, HasMoved}
use Rattle.run_loop.specs.Puts.{HasSinkCause}
use Rattle.run_loop.specs.Step.{FailsBy}
use Rattle.run_loop.specs.declared.status.SinkName.TheVariants.{Out, Report}
use Rattle.run_loop.specs.declared.status.SinkName.{SinkName}
use Rattle.run_loop.specs.declared.status.Status.{Status}
use Rattle.run_loop.specs.declared.status.Status.TheVariants as status

pub rose_since : (before mid now : ℕ) → before ≤ mid → Rose mid now → Rose before now
rose_since before mid now later (inl less) = inl (omega (arith, later, less))
rose_since before mid now later (inr last) = inr last

rose_until : (before mid now : ℕ) → before ≤ mid → mid ≤ now → Rose before mid → Rose before now
rose_until before mid now later more (inl less) = inl (omega (arith, more, less))
rose_until before mid now later more (inr last) =
    elim (cases_lt mid now) [
      | inl less ↦ inl (omega (arith, later, less))
      | inr same ↦ inr (omega (arith, last, more, same))
    ]

-- the causes stay causes while the report is written to
pub causes_until : (before mid : Edges) (report : Option (List ℕ)) (now : ℕ) (ending : Status) → before.reports ≤ mid.reports → mid.reports ≤ now →
    Causes before mid ending → Causes before (record mid { report = report; reports = now }) ending
causes_until before mid report now (status.WriteFault Report) later more cause = rose_until before.reports mid.reports now later more cause
causes_until before mid report now (status.WriteFault Out) later more cause = cause
causes_until before mid report now status.Done later more cause = cause
causes_until before mid report now status.SomeFailed later more cause = cause
causes_until before mid report now (status.BadWords number place) later more cause = cause
causes_until before mid report now (status.BadStream number place) later more cause = cause
causes_until before mid report now status.ReadFault later more cause = cause
causes_until before mid report now status.NoMemory later more cause = cause

-- what a round failed by is a cause
pub causes_failing : (before now : Edges) (mid : ℕ) (ending : Status) → before.reads ≤ mid → FailsBy mid now.reads ending → Causes before now ending
causes_failing before now mid status.ReadFault later by = rose_since before.reads mid now.reads later by
causes_failing before now mid (status.BadStream number place) later by = tt
causes_failing before now mid status.NoMemory later by = tt
causes_failing before now mid status.Done later by = absurd by
causes_failing before now mid status.SomeFailed later by = absurd by
causes_failing before now mid (status.BadWords number place) later by = absurd by
causes_failing before now mid (status.WriteFault sink) later by = absurd by

-- a failed write is a cause
pub causes_writing : (before mid now : Edges) (sink : SinkName) → HasMoved before mid → HasSinkCause {T = Unit {0}} mid.outs now.outs mid.reports now.reports (Err sink) →
    Causes before now (status.WriteFault sink)
causes_writing before mid now Out moved cause = rose_since before.outs mid.outs now.outs moved.outs (cause.out refl)
causes_writing before mid now Report moved cause = rose_since before.reports mid.reports now.reports moved.reports (cause.report refl)
