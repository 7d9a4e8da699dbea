-- Numbers that are accepted are some, few and in range.
use Rattle.std.proofs.Common.{◌≡◌, ℕ, zero, suc, ◌<◌, ◌≤◌, Bool, true, false, ◌||◌, not, nat_lt, if◌then◌else◌, List, [], ◌∷◌, length, map, slice_index, Ok, Err, refl, ap, sym, arith, ◌∙◌}
use Rattle.std.proofs.lemmas.Grind.{common_steps}
use Rattle.std.proofs.lemmas.List.{length-map}
use Rattle.std.specs.List.{list_all}
use Rattle.std.specs.declared.result.Result.{Result}
use Rattle.rate_match.specs.Matching.{is_qm, is_nl}
use Rattle.command_words.specs.Given.{IsGiven}
use Rattle.command_words.specs.Number.{is_spelt, worth}
use Rattle.command_words.specs.Operands.{listed, onto_first, numbers_of, texts_in, is_comma}
use Rattle.command_words.specs.Rules.{most, in_range}
use Rattle.command_words.specs.Tables.{modulations, layers}
use Rattle.command_words.specs.declared.rules.Form.{Form}
use Rattle.command_words.specs.declared.rules.Form.TheVariants.{Number, ListOfOne, ForTransmissions}
use Rattle.command_words.specs.declared.rules.Rule.{Rule}

some_first : (c : ℕ) (texts : List (List ℕ)) → 1 ≤ length (onto_first c texts)
some_first c [] = omega arith
some_first c (text ∷ texts) = omega arith

some_listed : (text : List ℕ) → 1 ≤ length (listed text)
some_listed [] = omega arith
some_listed (c ∷ text) = at (is_comma c)
  where
    at : (b : Bool) → 1 ≤ length (if b then [] ∷ listed text else onto_first c (listed text))
    at true = omega arith
    at false = some_first c (listed text)

some_texts : (form : Form) (text : List ℕ) → 1 ≤ length (texts_in form text)
some_texts Number text = omega arith
some_texts ListOfOne text = some_listed text
some_texts ForTransmissions text = some_listed text

chosen : (a b c : Bool) (xs ys : List ℕ) → (if not a then Err 6 else if b || not c then Err 7 else Ok xs) ≡ (let r : Result (List ℕ) ℕ = Ok ys in r) →
    (b ≡ false) × (c ≡ true) × (xs ≡ ys)
chosen true false true xs ys is = (refl, refl, cc)
chosen false b c xs ys is = cc
chosen true true c xs ys is = cc
chosen true false false xs ys is = cc

pub numbers_given : (rule : Rule) (text numbers : List ℕ) → numbers_of rule text ≡ Ok numbers → IsGiven rule numbers
numbers_given rule text numbers is =
    let texts = texts_in rule.form text in
    let all = map (worth 0) texts in
    let parts = chosen (list_all is_spelt texts) (nat_lt (most rule.form) (length all)) (list_all (in_range rule.range) all) all numbers is in
    let same = ap length parts.2 in
    record {
      some = omega (arith, same, length-map texts (worth 0), some_texts rule.form text);
      few = grind (arith, common_steps, same, parts.0);
      ranged = ap (list_all (in_range rule.range)) (sym parts.2) ∙ parts.1;
    }

-- ---- one of them

pub ranged_at : (p : ℕ → Bool) (numbers : List ℕ) (i : ℕ) → list_all p numbers ≡ true → i < length numbers → p (slice_index numbers i) ≡ true
ranged_at p [] i all within = absurd (omega (arith, within))
ranged_at p (n ∷ numbers) zero all within = grind (arith, common_steps, all)
ranged_at p (n ∷ numbers) (suc i) all within = ranged_at p numbers i (grind (arith, common_steps, all)) (omega (arith, within))

pub first_ranged : (rule : Rule) (numbers : List ℕ) → IsGiven rule numbers → in_range rule.range (slice_index numbers 0) ≡ true
first_ranged rule numbers given = ranged_at (in_range rule.range) numbers 0 given.ranged given.some

-- ---- numbers of the rate matching

pub modulation_is_qm : (n : ℕ) → in_range modulations n ≡ true → is_qm n ≡ true
modulation_is_qm zero is = cc
modulation_is_qm (suc zero) is = cc
modulation_is_qm (suc (suc zero)) is = refl
modulation_is_qm (suc (suc (suc zero))) is = cc
modulation_is_qm (suc (suc (suc (suc zero)))) is = refl
modulation_is_qm (suc (suc (suc (suc (suc zero))))) is = cc
modulation_is_qm (suc (suc (suc (suc (suc (suc zero)))))) is = refl
modulation_is_qm (suc (suc (suc (suc (suc (suc (suc n))))))) is = grind (arith, common_steps, is)

pub layers_are_nl : (n : ℕ) → in_range layers n ≡ true → is_nl n ≡ true
layers_are_nl n is = grind (arith, common_steps, is)
