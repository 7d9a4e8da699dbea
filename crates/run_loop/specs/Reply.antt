-- What a command answers to an input as a whole, and how it ends then.
use Rattle.std.specs.Prelude.{◌≡◌, ℕ, List, take, Some}
use Rattle.edge_io.specs.Edge.{Adds}
use Rattle.run_loop.specs.Answer.{Answer, Ending, finished, some_failed, bad}
use Rattle.run_loop.specs.Edges.{Edges, Causes, HasMoved}
use Rattle.run_loop.specs.Ended.{Ended}
use Rattle.run_loop.specs.declared.status.SinkName.TheVariants.{Report}
use Rattle.run_loop.specs.declared.status.Status.{Status}
use Rattle.run_loop.specs.declared.status.Status.TheVariants as status

-- an answer to what is read; or, of a command that reads nothing, a line for the report and an ending
pub data Reply : Type 0 where
  reading : Answer → Reply
  unread : (line : List ℕ) → Ending → Reply

-- the ending that the input alone settles
abbrev pub ending_of_reply : Reply → Ending
ending_of_reply (reading a) = a.ending
ending_of_reply (unread line ending) = ending

-- the line of a command that reads nothing, or as much of it as was written
abbrev pub AddsLast : (line : List ℕ) → Ending → Edges → Edges → Status → Type 0
AddsLast line ending old new status.Done = (ending ≡ finished) × Adds old.report new.report line
AddsLast line ending old new status.SomeFailed = (ending ≡ some_failed) × Adds old.report new.report line
AddsLast line ending old new (status.WriteFault Report) = (n : ℕ) × Adds old.report new.report (take n line)
AddsLast line ending old new status.NoMemory = new.report ≡ old.report
AddsLast line ending old new _ = ⊥

-- what is written at each ending of a command
abbrev pub EndsReply : Reply → Edges → Edges → Status → Type 0
EndsReply (reading a) old new status = Ended a old new status
EndsReply (unread line ending) old new status = (new.left ≡ old.left) × (new.out ≡ old.out)
    × AddsLast line ending old new status

-- the status of an ending, or running out of memory
abbrev pub IsEndingOf : Ending → Status → Type 0
IsEndingOf ending status.Done = ending ≡ finished
IsEndingOf ending status.SomeFailed = ending ≡ some_failed
IsEndingOf ending (status.BadStream number place) = ending ≡ bad number place
IsEndingOf ending status.NoMemory = Unit {0}
IsEndingOf ending _ = ⊥

-- A run of a command that has these replies: how it ends where the source tells what it gives, and, whether it
-- tells that or not, that each fault was counted, what was moved, and that no count fell.
pub record Ends (reply : List ℕ → Reply) (before now : Edges) (status : Status) : Type 0 where
  pub ended : (input : List ℕ) → before.left ≡ Some input → EndsReply (reply input) before now status
  pub causes : Causes before now status
  pub moved : HasMoved before now
