-- Words as texts.
use Rattle.std.specs.Prelude.{ℕ, List, map, Some, None}
use Rattle.std.specs.declared.option.Option.{Option}
use denote.Ref.{Bor}

abbrev pub texts_of : List (Bor (List ℕ)) → List (List ℕ)
texts_of words = map (λ w. w.now) words

abbrev pub text_of_option : Option (Bor (List ℕ)) → Option (List ℕ)
text_of_option None = None
text_of_option (Some text) = Some text.now
