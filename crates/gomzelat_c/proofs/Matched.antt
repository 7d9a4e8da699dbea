-- The matching of a caller's numbers, which are tested first in order, and then taken in a byte.
use Rattle.std.proofs.Common.{◌≡◌, ℕ, ◌*◌, Bool, true, false, not, ◌==◌, ◌||◌, min, nat_le, if◌then◌else◌, List, [], ◌∷◌, Some, Ok, Err, inl, inr, refl, sym, ap, ◌∙◌, arith}
use Rattle.std.specs.declared.option.Option.{Option}
use Rattle.std.specs.declared.result.Result.{Result}
use Rattle.std.proofs.lemmas.Bool.{cases_lt, eqb-true, or_cases}
use Rattle.std.proofs.lemmas.Bool.Decides.{nat_tests}
use Rattle.model_sender.specs.CircularBuffer.{Match}
use Rattle.rate_match.specs.Matching.{is_g, is_nl, is_qm, matched}
use Rattle.rate_match.specs.declared.matching.BadMatch.{BadMatch}
use Rattle.rate_match.specs.declared.matching.BadMatch.TheVariants as bad
use Rattle.gomzelat_c.specs.Refusals.{refusal_of}
use Rattle.gomzelat_c.specs.Tests.{Test, first_failed, test, transmission_tests}
use Rattle.gomzelat_c.specs.declared.refusal.Refusal.{Refusal}
use Rattle.gomzelat_c.specs.declared.refusal.Refusal.TheVariants.{BadQm, BadNl, BadG, BadVersion}
use Rattle.gomzelat_c.specs.declared.transmission.Transmission.{Transmission}

-- a number that is too large for a byte is none of those that are accepted, and neither is 255
qm_in_a_byte : (n : ℕ) → is_qm (min n 255) ≡ is_qm n
qm_in_a_byte n = elim (cases_lt n 256) [
  | inl small ↦ (let same : min n 255 ≡ n = omega (arith, small) in ap is_qm same)
  | inr large ↦ (let greatest : min n 255 ≡ 255 = omega (arith, large) in ap is_qm greatest ∙ sym (grind (arith, nat_tests, large)))
]

nl_in_a_byte : (n : ℕ) → is_nl (min n 255) ≡ is_nl n
nl_in_a_byte n = elim (cases_lt n 256) [
  | inl small ↦ (let same : min n 255 ≡ n = omega (arith, small) in ap is_nl same)
  | inr large ↦ (let greatest : min n 255 ≡ 255 = omega (arith, large) in ap is_nl greatest ∙ sym (grind (arith, nat_tests, large)))
]

-- what three tests come to
abbrev by_tests : (q n g : Bool) → Match → Result Match BadMatch
by_tests q n g m = if not q then Err bad.BadQm else if not n then Err bad.BadNl else if not g then Err bad.BadG else Ok m

abbrev failed : (q n g : Bool) → List Test → Option Refusal
failed q n g rest = first_failed (test q BadQm ∷ test n BadNl ∷ test g BadG ∷ rest)

some_fails : (q n g : Bool) (m : Match) (rest : List Test) (b : BadMatch) → by_tests q n g m ≡ Err b → failed q n g rest ≡ Some (refusal_of b)
some_fails false n g m rest b is = let same : bad.BadQm ≡ b = cc in ap (λ x. Some (refusal_of x)) same
some_fails true false g m rest b is = let same : bad.BadNl ≡ b = cc in ap (λ x. Some (refusal_of x)) same
some_fails true true false m rest b is = let same : bad.BadG ≡ b = cc in ap (λ x. Some (refusal_of x)) same
some_fails true true true m rest b is = cc

none_fails : (q n g : Bool) (m : Match) (rest : List Test) (x : Match) → by_tests q n g m ≡ Ok x → failed q n g rest ≡ first_failed rest
none_fails false n g m rest x is = cc
none_fails true false g m rest x is = cc
none_fails true true false m rest x is = cc
none_fails true true true m rest x is = refl

-- the third test counts only where the first two hold
third : (q n g h : Bool) (m : Match) → (q ≡ true → n ≡ true → g ≡ h) → by_tests q n g m ≡ by_tests q n h m
third false n g h m same = refl
third true false g h m same = refl
third true true g h m same = ap (λ (x : Bool). by_tests true true x m) (same refl refl)

qm_stays : (n : ℕ) → is_qm n ≡ true → min n 255 ≡ n
qm_stays n is = elim (or_cases (n == 2 || n == 4) (n == 6) is) [
  | inl more ↦ elim (or_cases (n == 2) (n == 4) more) [
    | inl two ↦ omega (arith, eqb-true n 2 two)
    | inr four ↦ omega (arith, eqb-true n 4 four)
  ]
  | inr six ↦ omega (arith, eqb-true n 6 six)
]

nl_stays : (n : ℕ) → is_nl n ≡ true → min n 255 ≡ n
nl_stays n is = elim (or_cases (n == 1) (n == 2) is) [
  | inl one ↦ omega (arith, eqb-true n 1 one)
  | inr two ↦ omega (arith, eqb-true n 2 two)
]

abbrev in_bytes : (qm nl g : ℕ) → Option ℕ → Match
in_bytes qm nl g limit = record { qm = min qm 255; nl = min nl 255; g = g; limit = limit }

-- what is matched in a byte goes by the tests of the numbers themselves
matched_in_bytes : (qm nl g : ℕ) (limit : Option ℕ) →
    matched (min qm 255) (min nl 255) g limit ≡ by_tests (is_qm qm) (is_nl nl) (is_g (nl * qm) g) (in_bytes qm nl g limit)
matched_in_bytes qm nl g limit =
    let m = in_bytes qm nl g limit in
    let inner : Bool = is_g (min nl 255 * min qm 255) g in
    ap (λ (q : Bool). by_tests q (is_nl (min nl 255)) inner m) (qm_in_a_byte qm)
    ∙ ap (λ (n : Bool). by_tests (is_qm qm) n inner m) (nl_in_a_byte nl)
    ∙ third (is_qm qm) (is_nl nl) inner (is_g (nl * qm) g) m (λ q n. ap (λ (u : ℕ). is_g u g) (ap (λ (v : ℕ). v * min qm 255) (nl_stays nl n) ∙ ap (λ (v : ℕ). nl * v) (qm_stays qm q)))

-- the test after those of the three numbers
abbrev version_test : Transmission → List Test
version_test t = test (nat_le t.rv 3) BadVersion ∷ []

-- the first number that isn't accepted
pub refused_first : (t : Transmission) (limit : Option ℕ) (b : BadMatch) → matched (min t.qm 255) (min t.nl 255) t.g limit ≡ Err b →
    first_failed (transmission_tests t) ≡ Some (refusal_of b)
refused_first t limit b is =
    some_fails (is_qm t.qm) (is_nl t.nl) (is_g (t.nl * t.qm) t.g) (in_bytes t.qm t.nl t.g limit) (version_test t) b (sym (matched_in_bytes t.qm t.nl t.g limit) ∙ is)

-- or all of them are
pub none_refused : (t : Transmission) (limit : Option ℕ) (m : Match) → matched (min t.qm 255) (min t.nl 255) t.g limit ≡ Ok m →
    first_failed (transmission_tests t) ≡ first_failed (test (nat_le t.rv 3) BadVersion ∷ [])
none_refused t limit m is =
    none_fails (is_qm t.qm) (is_nl t.nl) (is_g (t.nl * t.qm) t.g) (in_bytes t.qm t.nl t.g limit) (version_test t) m (sym (matched_in_bytes t.qm t.nl t.g limit) ∙ is)
