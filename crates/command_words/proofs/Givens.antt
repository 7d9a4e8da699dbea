-- A word that gives what a rule asks for.
use Rattle.std.proofs.Common.{◌≡◌, ℕ, zero, suc, ◌+◌, ◌<◌, Bool, true, false, if◌then◌else◌, List, [], ◌∷◌, length, slice_index_or, Some, None, refl, ap, arith, ◌∙◌}
use Rattle.std.specs.Prelude.{drop}
use denote.Ref.{Bor}
use Rattle.command_words.specs.Operands.{accepted, given_from, is_named, numbers_of, value_in, value_under}
use Rattle.command_words.specs.Rules.{name_text}
use Rattle.command_words.specs.Texts.{texts_of}
use Rattle.std.specs.declared.option.Option.{Option}
use Rattle.command_words.specs.declared.operands.Operand.{Operand}
use Rattle.command_words.specs.declared.rules.Rule.{Rule}

where_named : (b : Bool) (F : List ℕ → Option Operand) (value v : List ℕ) (other : Option Operand) → Some value ≡ (if b then Some v else None) →
    (if b then F v else other) ≡ F value
where_named true F value v other is = let same : v ≡ value = cc in ap F same
where_named false F value v other is = cc

given_here : (rule : Rule) (place : ℕ) (word value : List ℕ) (words : List (List ℕ)) → Some value ≡ value_under (name_text rule.name) word →
    given_from place rule (word ∷ words) ≡ accepted place (numbers_of rule value)
given_here rule place word value words is =
    where_named (is_named (name_text rule.name) word) (λ v. accepted place (numbers_of rule v)) value (value_in word) (given_from (place + 1) rule words) is

dropped : (words : List (Bor (List ℕ))) (i : ℕ) (d : Bor (List ℕ)) → i < length words →
    texts_of (drop i words) ≡ (slice_index_or words i d).now ∷ texts_of (drop (suc i) words)
dropped [] i d within = absurd (omega (arith, within))
dropped (word ∷ words) zero d within = refl
dropped (word ∷ words) (suc i) d within = dropped words i d (omega (arith, within))

pub given_at : (rule : Rule) (words : List (Bor (List ℕ))) (i : ℕ) (d : Bor (List ℕ)) (value : List ℕ) → i < length words →
    Some value ≡ value_under (name_text rule.name) (slice_index_or words i d).now →
    given_from (i + 1) rule (texts_of (drop i words)) ≡ accepted (i + 1) (numbers_of rule value)
given_at rule words i d value within is =
    ap (given_from (i + 1) rule) (dropped words i d within) ∙ given_here rule (i + 1) (slice_index_or words i d).now value (texts_of (drop (suc i) words)) is
