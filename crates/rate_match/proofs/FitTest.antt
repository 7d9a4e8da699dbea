-- The test of every length tells what it is to tell.
use Rattle.std.proofs.Common.{◌≡◌, ℕ, zero, suc, ◌+◌, ◌<◌, ◌≤◌, Bool, ◌⊎◌, true, false, ◌&&◌, Some, None, refl, sym, ap, ◌∙◌, inl, inr, arith}
use Rattle.std.specs.List.{list_all, range_with_len}
use Rattle.std.specs.declared.option.Option.{Option}
use Rattle.std.proofs.lemmas.Bool.{and_parts, cases_lt, leb-true, le-leb}
use Rattle.model_sender.specs.Segmentation.{plan_of}
use Rattle.model_sender.specs.CircularBuffer.{FitsIn}
use Rattle.rate_match.specs.Fitting.{FitsAll, fits_in, fits_all}

-- ---- the numbers of a range

same_or_above : (a b : ℕ) → a ≤ b → (a ≡ b) ⊎ (a < b)
same_or_above a b le = elim (cases_lt a b) [ inl lt ↦ inr lt | inr ge ↦ inl (omega (arith, le, ge)) ]

in_range : (p : ℕ → Bool) (a n : ℕ) → list_all p (range_with_len a n) ≡ true → (b : ℕ) → a ≤ b → b < a + n → p b ≡ true
in_range p a zero all b low high = absurd (omega (arith, low, high))
in_range p a (suc n) all b low high =
    let parts = and_parts (p a) (list_all p (range_with_len (a + 1) n)) all in
    elim (same_or_above a b low) [
      | inl e ↦ ap p (sym e) ∙ parts.0
      | inr above ↦ in_range p (a + 1) n parts.1 b (omega (arith, above)) (omega (arith, high))
    ]

all_range : (p : ℕ → Bool) (a n : ℕ) → ((b : ℕ) → a ≤ b → b < a + n → p b ≡ true) → list_all p (range_with_len a n) ≡ true
all_range p a zero each = refl
all_range p a (suc n) each =
    both (p a) (list_all p (range_with_len (a + 1) n)) (each a (omega arith) (omega arith))
    (all_range p (a + 1) n (λ b low high. each b (omega (arith, low)) (omega (arith, high))))
  where
    both : (x y : Bool) → x ≡ true → y ≡ true → (x && y) ≡ true
    both x y ex ey = ap (λ (z : Bool). z && y) ex ∙ ey

-- ---- the test of one plan

pub fits_in-true : (limit : Option ℕ) (c k : ℕ) → fits_in limit c k ≡ true → FitsIn limit c k
fits_in-true None c k e = tt
fits_in-true (Some limit) c k e = leb-true _ _ e

pub true-fits_in : (limit : Option ℕ) (c k : ℕ) → FitsIn limit c k → fits_in limit c k ≡ true
true-fits_in None c k fits = refl
true-fits_in (Some limit) c k fits = le-leb _ _ fits

-- ---- of all

pub fits_all-true : (limit : Option ℕ) (tb : ℕ) → fits_all limit tb ≡ true → FitsAll limit tb
unfolding fits_all
fits_all-true limit tb e bytes some few =
    fits_in-true limit (plan_of bytes).c (plan_of bytes).k_plus (in_range (λ b. fits_in limit (plan_of b).c (plan_of b).k_plus) 1 tb e bytes some (omega (arith, few)))

pub true-fits_all : (limit : Option ℕ) (tb : ℕ) → FitsAll limit tb → fits_all limit tb ≡ true
unfolding fits_all
true-fits_all limit tb fits =
    all_range (λ b. fits_in limit (plan_of b).c (plan_of b).k_plus) 1 tb
    (λ b low high. true-fits_in limit (plan_of b).c (plan_of b).k_plus (fits b low (omega (arith, high))))

-- two tests that tell the same
pub same_test : (a b : Bool) → (a ≡ true → b ≡ true) → (b ≡ true → a ≡ true) → a ≡ b
same_test true b to from = sym (to refl)
same_test false true to from = from refl
same_test false false to from = refl
