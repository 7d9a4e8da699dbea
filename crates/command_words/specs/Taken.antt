-- The numbers of a list, taken one after the other.
use Rattle.std.specs.Prelude.{ℕ, List, [], ◌∷◌, ◌++◌, length, true, false, ◌&&◌, nat_lt, if◌then◌else◌, Some, None, Ok, Err}
use Rattle.std.specs.declared.option.Option.{Option}
use Rattle.std.specs.declared.result.Result.{Result}
use Rattle.command_words.specs.Number.{is_spelt, worth}
use Rattle.command_words.specs.Rules.{most, in_range}
use Rattle.command_words.specs.declared.lists.Taken.{Taken}
use Rattle.command_words.specs.declared.rules.Rule.{Rule}

-- with one number more, which may not be accepted
abbrev pub with_number : Rule → Taken → ℕ → Taken
with_number rule t n = if t.fine && nat_lt (length t.numbers) (most rule.form) && in_range rule.range n
    then record t { numbers = t.numbers ++ n ∷ [] }
    else record t { fine = false }

-- with the number of a text, which may spell none
abbrev pub with_text : Rule → (text : List ℕ) → Taken → Option Taken
with_text rule text t = if is_spelt text then Some (with_number rule t (worth 0 text)) else None

abbrev pub none_taken : Taken
none_taken = record { numbers = []; fine = true }

abbrev pub finished : Taken → Result (List ℕ) ℕ
finished t = if t.fine then Ok t.numbers else Err 7

-- with those of the texts that are left
abbrev pub gathered : Rule → Taken → (texts : List (List ℕ)) → Result (List ℕ) ℕ
gathered rule t [] = finished t
gathered rule t (text ∷ texts) = if is_spelt text
    then gathered rule (with_number rule t (worth 0 text)) texts else Err 6
