-- How a run stops on its way, and how far it may have read then.
use Rattle.std.specs.Prelude.{◌≡◌, ℕ, ◌+◌, ◌<◌, ◌≤◌, List, [], ◌∷◌, length, take, nat_lt, ◌&&◌, if◌then◌else◌}
use Rattle.std.specs.declared.option.Option.{Option}
use Rattle.edge_io.specs.Edge.{Takes}
use Rattle.run_loop.specs.Answer.{Part, Answer, bad, size_of}
use Rattle.run_loop.specs.declared.status.Status.{Status}
use Rattle.run_loop.specs.declared.status.Status.TheVariants.{BadStream, ReadFault, NoMemory}

-- after n bytes the next part isn't known whole, or with none to come the ending isn't known
abbrev pub IsDue : (due : ℕ) → List Part → ℕ → Type 0
IsDue due [] n = n < due
IsDue due (p ∷ parts) n = n < p.wants

-- How many bytes may be read before memory runs out: those of the next blocks. Where several are read ahead
-- and fewer are left, those of the ending too.
abbrev pub most_ahead : Answer → ℕ
most_ahead a = size_of (take a.ahead a.parts)
    + (if nat_lt 1 a.ahead && nat_lt (length a.parts) a.ahead then a.tail else 0)

-- How many bytes may be read before the first of these parts is written, or the closing where there is none:
-- those of the parts that are read ahead. Where fewer are left, those of the ending too.
abbrev pub most_read : Answer → (after : List Part) → ℕ
most_read a after = size_of (take a.ahead after) + (if nat_lt (length after) a.ahead then a.tail else 0)

-- n bytes may have been read when memory runs out: never once the ending is known
abbrev pub IsWithin : Answer → ℕ → Type 0
IsWithin a n = (n ≤ most_ahead a) × (a.parts ≡ [] → 0 < a.due)

-- so many bytes were taken as is said of them
abbrev pub TakesSome : (old new : Option (List ℕ)) → (ℕ → Type 0) → Type 0
TakesSome old new P = (bytes : List ℕ) × Takes old new bytes × P (length bytes)

-- A run that stops where `b` is still to come: what it took before it stopped.
abbrev pub Stopped : (b : Answer) → (old new : Option (List ℕ)) → Status → Type 0
Stopped b old new (BadStream number place) = (b.parts ≡ []) × (b.ending ≡ bad number place)
    × TakesSome old new (λ n. n ≡ b.tail)
Stopped b old new ReadFault = TakesSome old new (IsDue b.due b.parts)
Stopped b old new NoMemory = TakesSome old new (IsWithin b)
Stopped b old new _ = ⊥
