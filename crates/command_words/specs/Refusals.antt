-- Words that are refused after the operands' own refusals, or before them.
use Rattle.std.specs.Prelude.{ℕ, ◌+◌, List, length, Some, None, Err}
use Rattle.std.specs.declared.option.Option.{Option}
use Rattle.std.specs.declared.result.Result.{Result}
use Rattle.command_words.specs.declared.operands.WordRefusal.{WordRefusal}

abbrev pub refused : {A : Type 0} → (number place : ℕ) → Result A WordRefusal
refused number place = Err (record { number = number; place = place })

-- a name isn't given; the place is the number of the words, the command among them
abbrev pub missing : (operands : List (List ℕ)) → WordRefusal
missing operands = record { number = 5; place = length operands + 1 }

abbrev pub unless : {A : Type 0} → Option WordRefusal → Result A WordRefusal → Result A WordRefusal
unless None answer = answer
unless (Some refusal) answer = Err refusal

-- 7 at a place
abbrev pub refused_at : {A : Type 0} → Option ℕ → Result A WordRefusal → Result A WordRefusal
refused_at None answer = answer
refused_at (Some place) answer = refused 7 place
