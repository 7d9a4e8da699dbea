-- How a command opens, and what a round of its work reads and gives.
use Rattle.std.specs.Prelude.{◌≡◌, ℕ, ◌<◌, ◌≤◌, List, [], length, Some, map, Bool, true, false, Ok, Err, IfErr}
use Rattle.std.specs.declared.option.Option.{Option}
use Rattle.std.specs.declared.result.Result.{Result}
use Rattle.edge_io.specs.Edge.{Rose}
use Rattle.run_loop.specs.Answer as answer
use Rattle.run_loop.specs.Answer.{Answer, Ending, finished, some_failed, preceded_by, size_of}
use Rattle.run_loop.specs.Due.{Stopped, TakesSome, most_read}
use Rattle.run_loop.specs.Edges.{Edges, Causes, HasMoved}
use Rattle.run_loop.specs.Ended.{Ended, Stands}
use Rattle.run_loop.specs.declared.status.Status.{Status}
use Rattle.run_loop.specs.declared.status.Status.TheVariants.{Done, SomeFailed, BadStream, ReadFault, NoMemory}
use Rattle.run_loop.specs.declared.work.Part.{Part}
use Rattle.run_loop.specs.declared.work.Round.{Round}
use Rattle.run_loop.specs.declared.work.Stop.{Stop}
use Rattle.run_loop.specs.declared.work.Stop.TheVariants.{Go, End, Fails}

-- ---- opening

-- Some parts are written, and `after` is still to come, for the input that is left.
pub record Reached (a : Answer) (after : List ℕ → Answer) (old new : Edges) : Type 0 where
  pub front : List answer.Part
  pub rest : List ℕ
  pub some : 0 < length front
  pub left : new.left ≡ Some rest
  pub stands : Stands a front (after rest) new.left old new

-- what `out` begins with is written, and then the work is still to do, or the run ended before
abbrev pub OpensTo : {W : Type 0} → Answer → (after : W → List ℕ → Answer) → Edges → Edges
    → Result W Status → Type 0
OpensTo a after old new (Ok work) = Reached a (after work) old new
OpensTo a after old new (Err status) = Ended a old new status

pub record Opens {W : Type 0} (answer : List ℕ → Answer) (after : W → List ℕ → Answer) (before now : Edges)
    (result : Result W Status) : Type 0 where
  pub opens : (input : List ℕ) → before.left ≡ Some input → OpensTo (answer input) after before now result
  pub causes : IfErr result (Causes before now)
  pub moved : HasMoved before now

-- ---- a round

-- the part of an answer that a part of a round is
abbrev pub part_of : Part → answer.Part
part_of p = record { text = p.text.items; line = p.line.items; size = p.size; wants = p.wants }

abbrev pub parts_of : List Part → List answer.Part
parts_of parts = map part_of parts

-- the ending of a command that was done
abbrev pub ending_of : (failed : Bool) → Ending
ending_of false = finished
ending_of true = some_failed

-- and how its run ends
abbrev pub done : (failed : Bool) → Status
done false = Done
done true = SomeFailed

-- How a round stops after its parts, where `b` is still to come then: `mid` is what was left after their
-- input, and `new` what is left now.
abbrev pub Stops : (b : Answer) → (after : List ℕ → Answer) → (mid new : Option (List ℕ)) → Stop → Type 0
Stops b after mid new Go = (rest : List ℕ) × (mid ≡ Some rest) × (new ≡ Some rest) × (b ≡ after rest)
Stops b after mid new (End closing last failed) = (new ≡ Some []) × (b.parts ≡ [])
    × (b.closing ≡ closing.items) × (b.last ≡ last.items) × (b.ending ≡ ending_of failed)
Stops b after mid new (Fails status) = Stopped b mid new status

-- A round that began with the answer `a` still to come took the input of its parts, and then stopped. In all
-- it read no more than may be read before the first of them is written.
abbrev pub Gives : (a : Answer) → (after : List ℕ → Answer) → (old new : Option (List ℕ)) → Round → Type 0
Gives a after old new round = (b : Answer) × (mid : Option (List ℕ))
    × (a ≡ preceded_by (parts_of round.parts.items) b)
    × TakesSome old mid (λ n. n ≡ size_of (parts_of round.parts.items))
    × Stops b after mid new round.stop
    × TakesSome old new (λ n. n ≤ most_read a a.parts)

-- it gave that, or the run stopped before it had a part
abbrev pub Steps : (a : Answer) → (after : List ℕ → Answer) → (old new : Option (List ℕ)) → Result Round Status → Type 0
Steps a after old new (Ok round) = Gives a after old new round
Steps a after old new (Err status) = Stopped a old new status

-- a round that goes on lowers the number of rounds that may still come
abbrev pub Fewer : (before now : ℕ) → Stop → Type 0
Fewer before now Go = now < before
Fewer before now _ = Unit {0}

-- a round fails by its input, the source or memory alone, and by the source where it counted a fault
abbrev pub FailsBy : (before now : ℕ) → Status → Type 0
FailsBy before now (BadStream number place) = Unit {0}
FailsBy before now ReadFault = Rose before now
FailsBy before now NoMemory = Unit {0}
FailsBy before now _ = ⊥

-- so does one that fails after its parts
abbrev pub StopsBy : (before now : ℕ) → Stop → Type 0
StopsBy before now (Fails status) = FailsBy before now status
StopsBy before now _ = Unit {0}
