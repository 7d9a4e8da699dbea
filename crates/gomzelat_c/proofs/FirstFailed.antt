-- The first test that fails, of one list of tests and then another.
use Rattle.std.proofs.Common.{◌≡◌, ℕ, ◌≤◌, Bool, true, false, ◌&&◌, nat_le, List, [], ◌∷◌, ◌++◌, None, Some, if◌then◌else◌, ap, ◌∙◌}
use Rattle.std.specs.declared.option.Option.{Option}
use Rattle.std.proofs.lemmas.Bool.{le-leb}
use Rattle.gomzelat_c.specs.Tests.{Test, first_failed, is_from, test}
use Rattle.gomzelat_c.specs.declared.refusal.Refusal.{Refusal}

abbrev or_else : Option Refusal → Option Refusal → Option Refusal
or_else None o = o
or_else (Some r) o = Some r

one_more : (holds : Bool) (r : Refusal) (a b c : Option Refusal) → a ≡ or_else b c → (if holds then a else Some r) ≡ or_else (if holds then b else Some r) c
one_more true r a b c is = is
one_more false r a b c is = λ _. Some r

first_of_both : (xs ys : List Test) → first_failed (xs ++ ys) ≡ or_else (first_failed xs) (first_failed ys)
first_of_both [] ys = λ _. first_failed ys
first_of_both (x ∷ xs) ys = one_more x.holds x.otherwise (first_failed (xs ++ ys)) (first_failed xs) (first_failed ys) (first_of_both xs ys)

-- where none of these fails, one of the others may
pub none_failed : (xs ys : List Test) → first_failed xs ≡ None → first_failed (xs ++ ys) ≡ first_failed ys
none_failed xs ys none = first_of_both xs ys ∙ ap (λ o. or_else o (first_failed ys)) none

-- where one of these fails, it is the first of all
pub one_failed : (xs ys : List Test) (r : Refusal) → first_failed xs ≡ Some r → first_failed (xs ++ ys) ≡ Some r
one_failed xs ys r one = first_of_both xs ys ∙ ap (λ o. or_else o (first_failed ys)) one

-- two tests hold, and the others are left
pub after_two : (a b : Bool) (r s : Refusal) (ts : List Test) → a ≡ true → b ≡ true → first_failed (test a r ∷ test b s ∷ ts) ≡ first_failed ts
after_two true true r s ts h k = λ _. first_failed ts
after_two true false r s ts h k = cc
after_two false b r s ts h k = cc

pub is_from_true : (low high n : ℕ) → low ≤ n → n ≤ high → is_from low high n ≡ true
is_from_true low high n h k = ap (λ (b : Bool). b && nat_le n high) (le-leb low n h) ∙ le-leb n high k

-- three tests hold, and the fourth doesn't
pub fourth : (a b c d : Bool) (p q r s u : Refusal) (ts : List Test) → a ≡ true → b ≡ true → c ≡ true → first_failed (test d s ∷ []) ≡ Some u
    → first_failed (test a p ∷ test b q ∷ test c r ∷ test d s ∷ ts) ≡ Some u
fourth true true true true p q r s u ts h k l is = cc
fourth true true true false p q r s u ts h k l is = is
fourth true true false d p q r s u ts h k l is = cc
fourth true false c d p q r s u ts h k l is = cc
fourth false b c d p q r s u ts h k l is = cc

-- one test holds, and the second doesn't
pub second : (a b : Bool) (p s u : Refusal) (ts : List Test) → a ≡ true → first_failed (test b s ∷ []) ≡ Some u
    → first_failed (test a p ∷ test b s ∷ ts) ≡ Some u
second true true p s u ts h is = cc
second true false p s u ts h is = is
second false b p s u ts h is = cc
