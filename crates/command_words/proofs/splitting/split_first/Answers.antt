use Rattle.std.proofs.Common.{◌≡◌, ℕ, ◌<◌, ◌==◌, List, length, Some, None}
use Rattle.std.specs.List.{before_first, after_first, position_or_len}
use Rattle.std.specs.Prelude.{MatchOption}
use Rattle.std.specs.declared.option.Option.{Option}
use denote.Ref.{Bor}
use Rattle.command_words.specs.Splitting.{IsSplit}
use Rattle.command_words.proofs.Listed.{none_at, some_at, shorter_after}
use Rattle.command_words.proofs.splitting.split_first.Goals as goal

of_cases : (mark : ℕ) (text : List ℕ) (result : Option (Bor (List ℕ) × Bor (List ℕ))) →
    MatchOption result (position_or_len (λ b. b == mark) text ≡ length text)
    (λ x. (x.0.now ≡ before_first (λ b. b == mark) text) × (x.1.now ≡ after_first (λ b. b == mark) text) × (position_or_len (λ b. b == mark) text < length text)) →
    IsSplit mark text result
of_cases mark text None is = none_at mark text is
of_cases mark text (Some x) is = (some_at mark text is.2, is.0, is.1, shorter_after mark text x.1.now (some_at mark text is.2) is.1)

pub returns : goal.returns
returns c = of_cases c.args.mark c.args.text.now c.split_once.result (c.split_once.ensures.byte c.requires (λ w o f. f))
