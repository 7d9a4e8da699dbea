-- A run of accepted words, from what its command owes and the line that tells a fault.
use Rattle.std.proofs.Common.{◌≡◌, ◌≤◌, ℕ, List, Ok, Some, None, IfSome, refl}
use Rattle.std.specs.declared.option.Option.{Option}
use Rattle.run_loop.specs.Edges.{Causes, Edges, IsQuiet}
use Rattle.run_loop.specs.FaultLine.{AddsLine, Finished, fault_line}
use Rattle.run_loop.specs.Reply.{Ends, EndsReply, IsEndingOf, Reply, ending_of_reply}
use Rattle.run_loop.specs.declared.status.Status.{Status}
use Rattle.run_loop.proofs.Complete.{complete}
use Rattle.run_loop.proofs.Moves.{moved_line}
use Rattle.run_loop.proofs.Rises.{causes_until, rose_since}
use Rattle.command_words.specs.Words.{command_of}
use Rattle.command_words.specs.declared.words.Command.{Command}
use Rattle.turbo_run.specs.Run.{answer_of, unread_of, LeavesAlone, Runs}

-- of a command that reads nothing
unread_as : (o : Option Reply) (old mid new : Edges) (status : Status) → new.left ≡ mid.left → new.out ≡ mid.out →
    AddsLine mid.report new.report (fault_line status) old.reports new.reports → Causes old new status → IfSome o (λ reply. EndsReply reply old mid status) →
    IfSome o (λ reply. Finished reply old new status × (IsQuiet old new → IsEndingOf (ending_of_reply reply) status))
unread_as None old mid new status left out line causes ended = tt
unread_as (Some reply) old mid new status left out line causes ended = (
  record { mid = mid; ended = ended; left = left; out = out; line = line },
  λ quiet. complete reply old mid old new status ended causes quiet,
)

pub runs_as : {S D : Type 0} (words : List (List ℕ)) (command : Command) (source source' : S) (out out' : D) (old mid : Edges) (report : Option (List ℕ)) (reports : ℕ) (status : Status) →
    command_of words ≡ Ok command → Ends (answer_of command) old mid status → LeavesAlone command source source' out out' →
    IfSome (unread_of command) (λ reply. EndsReply reply old mid status) →
    mid.reports ≤ reports → AddsLine mid.report report (fault_line status) mid.reports reports →
    Runs words source source' out out' old (record mid { report = report; reports = reports }) status
runs_as words command source source' out out' old mid report reports status is ends alone unread then line =
    let first = ends.moved.reports in
    let told : AddsLine mid.report report (fault_line status) old.reports reports = record { front = line.front; whole = λ quiet. line.whole (λ rose. quiet (rose_since _ _ _ first rose)) } in
    let new = record mid { report = report; reports = reports } in
    let causes = causes_until old mid report reports status first then ends.causes in
    record {
      refused = rw is tt;
      ends = rw is (λ input left. record { mid = mid; ended = ends.ended input left; left = refl; out = refl; line = told });
      complete = rw is (λ input left quiet. complete (answer_of command input) old mid old new status (ends.ended input left) causes quiet);
      causes = rw is causes;
      moved = moved_line old mid report reports (fault_line status) mid.reports ends.moved line then;
      alone = rw is alone;
      unread = rw is (unread_as (unread_of command) old mid new status refl refl told causes unread);
    }
