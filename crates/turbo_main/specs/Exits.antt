-- How the program ends.
use Rattle.std.specs.Prelude.{◌≡◌, ℕ, ◌⊎◌, List}
use Rattle.std.specs.declared.io.ErrorKind.{ErrorKind}
use Rattle.std.specs.declared.io.ErrorKind.TheVariants.{OutOfMemory}
use Rattle.run_loop.specs.Edges.{Edges}
use Rattle.run_loop.specs.Exit.{exit_of}
use Rattle.run_loop.specs.declared.status.Status.{Status}
use Rattle.run_loop.specs.declared.status.Status.TheVariants.{NoMemory}
use Rattle.turbo_run.specs.Run.{Runs}

-- the exit where the arguments couldn't be read: 6 where memory ran out, else 2
abbrev pub exit_unread : ErrorKind → ℕ
exit_unread OutOfMemory = 6
exit_unread _ = 2

-- A run of these words that ends with this exit. Where memory runs out before it begins, source and sinks
-- are as they were.
abbrev pub RunsTo : {S D R : Type 0} → (words : List (List ℕ)) → (source source' : S) → (out out' : D)
    → (report report' : R) → (old new : Edges) → (exit : ℕ) → Type 0
RunsTo words source source' out out' report report' old new exit =
    ((exit ≡ exit_of NoMemory) × (source' ≡ source) × (out' ≡ out) × (report' ≡ report))
    ⊎ ((status : Status) × Runs words source source' out out' old new status × (exit ≡ exit_of status))
