-- What a worker's seat gained.
use Rattle.std.specs.Prelude.{◌≡◌, ℕ, List, ◌++◌}
use Rattle.phase_board.specs.declared.view.View.{View}

-- its drawn and its done list grew by the same numbers
abbrev pub GrewAlike : {J : Type 0} → View J → View J → Type 0
GrewAlike old new = (numbers : List ℕ) × (new.drawn ≡ old.drawn ++ numbers) × (new.done ≡ old.done ++ numbers)
