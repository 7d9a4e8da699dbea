-- How a command ends whose answer is known, and what is written then.
use Rattle.std.specs.Prelude.{◌≡◌, ℕ, ◌+◌, ◌<◌, ◌≤◌, List, [], ◌∷◌, ◌++◌, length, take, Some}
use Rattle.std.specs.declared.option.Option.{Option}
use Rattle.edge_io.specs.Edge.{Adds}
use Rattle.run_loop.specs.Answer.{Part, Answer, finished, some_failed, preceded_by, texts, lines, size_of}
use Rattle.run_loop.specs.Due.{Stopped, TakesSome, most_read}
use Rattle.run_loop.specs.Edges.{Edges}
use Rattle.run_loop.specs.declared.status.SinkName.TheVariants.{Out, Report}
use Rattle.run_loop.specs.declared.status.Status.{Status}
use Rattle.run_loop.specs.declared.status.Status.TheVariants.{Done, SomeFailed, WriteFault, NoMemory}

-- The parts in front were finished, and `b` is still to come; `mid` was left after the input of those parts.
pub record Stands (a : Answer) (front : List Part) (b : Answer) (mid : Option (List ℕ)) (old new : Edges) : Type 0 where
  pub split : a ≡ preceded_by front b
  pub took : TakesSome old.left mid (λ n. n ≡ size_of front)
  pub out : Adds old.out new.out (texts front)
  pub report : Adds old.report new.report (lines front)

-- it stopped on its way; since memory ran out only once `out` has what it begins with
abbrev pub StoppedAfter : Answer → Edges → Edges → Status → Type 0
StoppedAfter a old new status = (front : List Part) × (b : Answer) × (mid : Option (List ℕ))
    × Stands a front b mid old new × Stopped b mid new.left status
    × (status ≡ NoMemory → 0 < length front)

-- the whole texts are written, and the source has nothing left
abbrev pub IsWhole : Answer → Edges → Edges → Type 0
IsWhole a old new = Adds old.out new.out (texts a.parts ++ a.closing)
    × Adds old.report new.report (lines a.parts ++ a.last) × (new.left ≡ Some [])

-- the text that is next: that of the next part, or the closing
abbrev pub next_text : (closing : List ℕ) → List Part → List ℕ
next_text closing [] = closing
next_text closing (p ∷ parts) = p.text

-- the line that goes with it
abbrev pub next_line : (last : List ℕ) → List Part → List ℕ
next_line last [] = last
next_line last (p ∷ parts) = p.line

-- no more was read than the input of the parts in front and what is read ahead of the rest
abbrev pub ReadsAhead : Answer → (front after : List Part) → Edges → Edges → Type 0
ReadsAhead a front after old new = TakesSome old.left new.left (λ n. n ≤ size_of front + most_read a after)

-- What is written at each ending. A write fails only where something is to be written, and leaves a prefix of it.
abbrev pub Ended : Answer → Edges → Edges → Status → Type 0
Ended a old new Done = (a.ending ≡ finished) × IsWhole a old new
Ended a old new SomeFailed = (a.ending ≡ some_failed) × IsWhole a old new
Ended a old new (WriteFault Out) = (front after : List Part) × (n : ℕ) × (a.parts ≡ front ++ after)
    × (0 < length (next_text a.closing after))
    × Adds old.out new.out (texts front ++ take n (next_text a.closing after))
    × Adds old.report new.report (lines front) × ReadsAhead a front after old new
Ended a old new (WriteFault Report) = (front after : List Part) × (n : ℕ) × (a.parts ≡ front ++ after)
    × (0 < length (next_line a.last after))
    × Adds old.out new.out (texts front ++ next_text a.closing after)
    × Adds old.report new.report (lines front ++ take n (next_line a.last after))
    × ReadsAhead a front after old new
Ended a old new stopped = StoppedAfter a old new stopped
