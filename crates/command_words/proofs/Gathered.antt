-- Numbers taken one after the other are the numbers of all texts.
use Rattle.std.proofs.Common.{◌≡◌, ℕ, ◌+◌, ◌≤◌, true, false, ◌||◌, not, nat_lt, if◌then◌else◌, List, [], ◌∷◌, ◌++◌, length, map, Ok, Err, arith, refl, ap, ◌∙◌}
use Rattle.std.proofs.lemmas.Grind.{common_steps}
use Rattle.std.specs.List.{list_all}
use Rattle.std.proofs.lemmas.List.{length-map}
use Rattle.command_words.specs.Number.{is_spelt, worth}
use Rattle.command_words.specs.Operands.{texts_in, numbers_of}
use Rattle.command_words.specs.declared.rules.Form.{Form}
use Rattle.command_words.specs.Rules.{most, in_range}
use Rattle.command_words.specs.Taken.{gathered, none_taken}
use Rattle.command_words.specs.declared.lists.Taken.{Taken}
use Rattle.command_words.specs.declared.rules.Rule.{Rule}

-- some number wasn't accepted
pub not_fine : (rule : Rule) (t : Taken) (texts : List (List ℕ)) → t.fine ≡ false →
    gathered rule t texts ≡ if list_all is_spelt texts then Err 7 else Err 6
not_fine rule t [] off = grind (arith, common_steps, off)
not_fine rule t (text ∷ texts) off =
    grind (arith, common_steps, off, not_fine rule (record t { fine = false }) texts refl)

pub all_fine : (rule : Rule) (t : Taken) (texts : List (List ℕ)) → t.fine ≡ true → length t.numbers ≤ most rule.form →
    gathered rule t texts ≡ if not (list_all is_spelt texts) then Err 6
    else if nat_lt (most rule.form) (length t.numbers + length texts) || not (list_all (in_range rule.range) (map (worth 0) texts)) then Err 7
    else Ok (t.numbers ++ map (worth 0) texts)
all_fine rule t [] on few = grind (arith, common_steps, on, few)
all_fine rule t (text ∷ texts) on few =
    grind (arith, common_steps, on, few, not_fine rule (record t { fine = false }) texts refl, all_fine rule (record t { numbers = t.numbers ++ worth 0 text ∷ [] }) texts on)

pub all_numbers : (rule : Rule) (text : List ℕ) → gathered rule none_taken (texts_in rule.form text) ≡ numbers_of rule text
all_numbers rule text =
    all_fine rule none_taken (texts_in rule.form text) refl (some_most rule.form)
    ∙ ap (λ n. if not (list_all is_spelt (texts_in rule.form text)) then Err 6
    else if nat_lt (most rule.form) n || not (list_all (in_range rule.range) (map (worth 0) (texts_in rule.form text))) then Err 7
    else Ok (map (worth 0) (texts_in rule.form text))) (omega (arith, length-map (texts_in rule.form text) (worth 0)))
  where
    some_most : (form : Form) → 0 ≤ most form
    some_most form = omega arith
