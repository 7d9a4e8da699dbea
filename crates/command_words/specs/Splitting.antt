-- A text cut in two.
use Rattle.std.specs.Prelude.{◌≡◌, ℕ, ◌<◌, List, length, true, false, ◌==◌, Some, None}
use Rattle.std.specs.List.{before_first, after_first, list_any}
use Rattle.std.specs.declared.option.Option.{Option}
use denote.Ref.{Bor}

-- what is before the first mark and after it, or no mark
abbrev pub IsSplit : (mark : ℕ) → (text : List ℕ) → Option (Bor (List ℕ) × Bor (List ℕ)) → Type 0
IsSplit mark text None = list_any (λ c. c == mark) text ≡ false
IsSplit mark text (Some x) = (list_any (λ c. c == mark) text ≡ true)
    × (x.0.now ≡ before_first (λ c. c == mark) text) × (x.1.now ≡ after_first (λ c. c == mark) text)
    × (length x.1.now < length text)
