-- The line that tells a fault, written once after what the command left.
use Rattle.std.specs.Prelude.{◌≡◌, ℕ, List, [], ◌∷◌, take, codes, decimal, flat_map}
use Rattle.std.specs.declared.option.Option.{Option}
use Rattle.edge_io.specs.Edge.{Adds, Rose}
use Rattle.run_loop.specs.Edges.{Edges}
use Rattle.run_loop.specs.Reply.{Reply, EndsReply}
use Rattle.run_loop.specs.declared.status.SinkName.TheVariants.{Out, Report}
use Rattle.run_loop.specs.declared.status.Status.{Status}
use Rattle.run_loop.specs.declared.status.Status.TheVariants as status

-- pieces of text, one after the other
abbrev pub joined : List (List ℕ) → List ℕ
joined pieces = flat_map (λ piece. piece) pieces

-- such as `bad words 6 at 1`
abbrev pub place_line : (text : List ℕ) → (number place : ℕ) → List ℕ
place_line text number place = joined (text ∷ decimal number ∷ codes " at " ∷ decimal place ∷ codes "\n" ∷ [])

-- nothing where the command was done, and where it is the report that failed
abbrev pub fault_line : Status → List ℕ
fault_line status.Done = []
fault_line status.SomeFailed = []
fault_line (status.BadWords number place) = place_line (codes "bad words ") number place
fault_line (status.BadStream number place) = place_line (codes "bad stream ") number place
fault_line status.ReadFault = joined (codes "read fault\n" ∷ [])
fault_line (status.WriteFault Out) = joined (codes "write fault out\n" ∷ [])
fault_line (status.WriteFault Report) = []
fault_line status.NoMemory = joined (codes "no memory\n" ∷ [])

-- a line was added whole, or where the sink's count rose a prefix of it
pub record AddsLine (old new : Option (List ℕ)) (line : List ℕ) (before now : ℕ) : Type 0 where
  pub front : (n : ℕ) × Adds old new (take n line)
  pub whole : (Rose before now → ⊥) → Adds old new line

-- what is there when a run ends: what the command left, and then the fault line
pub record Finished (reply : Reply) (old new : Edges) (status : Status) : Type 0 where
  pub mid : Edges
  pub ended : EndsReply reply old mid status
  pub left : new.left ≡ mid.left
  pub out : new.out ≡ mid.out
  pub line : AddsLine mid.report new.report (fault_line status) old.reports new.reports
