-- The units of a stream, refusals in them, and how reading them stops.
use Rattle.std.specs.Prelude.{◌≡◌, ℕ, ◌+◌, ◌<◌, List, ◌++◌, length, Some, Ok, Err}
use Rattle.std.specs.declared.option.Option.{Option}
use Rattle.std.specs.declared.result.Result.{Result}
use Rattle.std.specs.Io.KnownBytes.{IsAtEnd}
use Rattle.edge_io.specs.Edge.{Rose, Takes}
use Rattle.coded_stream.specs.declared.stop.StreamStop.{StreamStop}
use Rattle.coded_stream.specs.declared.stop.StreamStop.TheVariants.{Bad, Fault, NoMemory}

-- A refusal: its number, and its byte of the stream. Of what is read from some place of the stream on, `size`
-- bytes are read up to the end of the refused unit, and `due` must have come before the refusal is known, where
-- the end of the input counts as one.
pub record Refusal : Type 0 where
  pub number : ℕ
  pub place : ℕ
  pub size : ℕ
  pub due : ℕ

-- a unit that was read whole, so that `size` bytes were read, is refused at a byte
abbrev pub refused_at : (number place size : ℕ) → Refusal
refused_at number place size = record { number = number; place = place; size = size; due = size }

-- the input ends in a unit that is due, `size` bytes after the place from which on it was read
abbrev pub truncated : (start size : ℕ) → Refusal
truncated start size = record { number = 6; place = start + size; size = size; due = size + 1 }

-- ---- a unit

-- fewer than all bytes of a unit came, and then the end of the input, or a fault
abbrev pub EndsInUnit : (place : ℕ) → (old new : Option (List ℕ)) → (unit : List ℕ) → StreamStop → Type 0
EndsInUnit place old new unit (Bad number at) = (bytes : List ℕ) × (length bytes < length unit)
    × Takes old new bytes × IsAtEnd new × (number ≡ 6) × (at ≡ place + length bytes)
EndsInUnit place old new unit Fault = (bytes : List ℕ) × (length bytes < length unit) × Takes old new bytes
EndsInUnit place old new unit NoMemory = ⊥

-- what reading a unit at a place of the stream took: all of it, or fewer
abbrev pub TakesUnit : {T : Type 0} → (place : ℕ) → (old new : Option (List ℕ)) → (unit : List ℕ)
    → Result T StreamStop → Type 0
TakesUnit place old new unit (Ok _) = Takes old new unit
TakesUnit place old new unit (Err stop) = EndsInUnit place old new unit stop

-- ---- whatever is read

-- Reading stopped, where the source tells its bytes: at a refusal of which `Says` holds, up to the end of its
-- unit, or at a fault, after so few bytes that `IsDue` holds of their number.
abbrev pub Stops : (Says : Refusal → Type 0) → (IsDue : ℕ → Type 0) → (old new : Option (List ℕ)) → StreamStop
    → Type 0
Stops Says IsDue old new (Bad number place) = (bytes left : List ℕ) × (due : ℕ)
    × (old ≡ Some (bytes ++ left)) × (new ≡ Some left)
    × Says (record { number = number; place = place; size = length bytes; due = due })
Stops Says IsDue old new Fault = (bytes : List ℕ) × Takes old new bytes × IsDue (length bytes)
Stops Says IsDue old new NoMemory = ⊥

-- a fault comes only where the count of faults rose, and memory doesn't run out
abbrev pub IsCause : (before now : ℕ) → StreamStop → Type 0
IsCause before now (Bad number place) = Unit {0}
IsCause before now Fault = Rose before now
IsCause before now NoMemory = ⊥
