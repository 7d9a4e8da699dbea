-- What reading the next bytes takes.
use Rattle.std.specs.Prelude.{◌≡◌, ℕ, ◌<◌, List, length, Ok, Err}
use Rattle.std.specs.declared.option.Option.{Option}
use Rattle.std.specs.declared.result.Result.{Result}
use Rattle.std.specs.Io.KnownBytes.{IsAtEnd}
use Rattle.edge_io.specs.Edge.{Takes}
use Rattle.run_loop.specs.declared.status.Status.{Status}
use Rattle.run_loop.specs.declared.status.Status.TheVariants.{ReadFault, NoMemory}
use Rattle.command_encode.specs.declared.input.Input.{Input}
use Rattle.command_encode.specs.declared.input.Input.TheVariants.{Whole, Ended}

-- all bytes, fewer up to the end of the input, fewer before a fault, or none where memory ran out
abbrev pub IsInput : (size : ℕ) → (old new : Option (List ℕ)) → Result Input Status → Type 0
IsInput size old new (Ok (Whole bytes)) = (length bytes.items ≡ size) × Takes old new bytes.items
IsInput size old new (Ok (Ended bytes)) = (length bytes.items < size) × Takes old new bytes.items × IsAtEnd new
IsInput size old new (Err ReadFault) = (bytes : List ℕ) × (length bytes < size) × Takes old new bytes
IsInput size old new (Err NoMemory) = new ≡ old
IsInput size old new (Err _) = ⊥
