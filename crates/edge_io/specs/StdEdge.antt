-- What a write over a writer of std does to the bytes that the writer holds.
use Rattle.std.specs.Prelude.{ℕ, List, take, MatchResult}
use Rattle.std.specs.declared.option.Option.{Option}
use Rattle.std.specs.declared.result.Result.{Result}
use Rattle.std.specs.Io.KnownBytes.{Appends}

-- where the bytes are known, `Ok(n)` appended the first n bytes of the piece, and `Err` some prefix of it
abbrev pub AppendsFront : {E : Type 0} → Option (List ℕ) → Option (List ℕ) → List ℕ → Result ℕ E → Type 0
AppendsFront old new piece r = MatchResult r
    (λ n. Appends old new (take n piece))
    (λ _. (n : ℕ) × Appends old new (take n piece))
