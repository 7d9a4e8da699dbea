use Rattle.std.proofs.Common.{◌≡◌, ℕ, ◌<◌, ◌≤◌, length, true, List, rules, sym, ap, ◌∙◌, arith, refl}
use Rattle.std.proofs.lemmas.Grind.{common_steps}
use Rattle.std.specs.Char.{is_ascii_digit}
use Rattle.std.specs.List.{list_all}
use Rattle.std.specs.Result.{result_ok}
use Rattle.std.proofs.lemmas.Str.Parse.{IsNumeralModel, numerals_by_fold, parse_gives, digits_value_short}
use Rattle.command_words.specs.Number.{is_spelt, worth}
use Rattle.command_words.proofs.number.spelt.Goals as goal

own : IsNumeralModel (λ ds. list_all is_ascii_digit ds ≡ true) (worth 0)
own = numerals_by_fold _ (search rules) worth (search rules)

some_digits : (text : List ℕ) → is_spelt text ≡ true → (0 < length text) × (length text ≤ 20) × (list_all is_ascii_digit text ≡ true)
some_digits text is = (grind (arith, common_steps, is), grind (arith, common_steps, is), grind (arith, common_steps, is))

pub returns : goal.returns
returns c =
    let text = c.args.text.now in
    let is : is_spelt text ≡ true = ap is_spelt (sym c.as_bytes.ensures.value) ∙ sym c.is_spelt.ensures ∙ c.if-not-is_spelt.false in
    let digits = some_digits text is in
    let parsed = parse_gives own 128 text c.parse.result c.parse.ensures.value.0 digits.2 digits.0 (omega (arith, digits_value_short own text 20 digits.2 digits.1)) in
    c.ok.ensures.value ∙ ap result_ok parsed ∙ sym (rw is refl)
