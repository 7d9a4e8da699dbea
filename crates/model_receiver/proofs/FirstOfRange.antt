-- The first number of a range that passes a test.
use Rattle.std.proofs.Common.{◌≡◌, ℕ, zero, suc, ◌+◌, ◌<◌, ◌≤◌, ◌⊎◌, Bool, true, false, cond, refl, ap, ◌∙◌, subst, inl, inr, arith}
use Rattle.std.specs.Prelude.{Option, None, Some, find}
use Rattle.std.specs.List.{range_with_len}
use Rattle.std.proofs.lemmas.Bool.{cases_lt}

-- no number of the range passes
pub record IsNone (test : ℕ → Bool) (a n : ℕ) (r : Option ℕ) : Type 0 where
  pub is : r ≡ None
  pub all : (i : ℕ) → a ≤ i → i < a + n → test i ≡ false

-- some number is the first
pub record IsFirst (test : ℕ → Bool) (a n : ℕ) (r : Option ℕ) : Type 0 where
  pub at : ℕ
  pub is : r ≡ Some at
  pub passes : test at ≡ true
  pub low : a ≤ at
  pub high : at < a + n
  pub before : (i : ℕ) → a ≤ i → i < at → test i ≡ false

pub first : (test : ℕ → Bool) (a n : ℕ) → IsNone test a n (find test (range_with_len a n)) ⊎ IsFirst test a n (find test (range_with_len a n))
first test a zero = inl (record { is = refl; all = λ i le lt. absurd (omega (arith, le, lt)) })
first test a (suc n) = by_test (test a) refl (first test (a + 1) n)
  where
    from : (P : ℕ → Type 0) (b : ℕ) → P a → ((i : ℕ) → a + 1 ≤ i → i < b → P i) → (i : ℕ) → a ≤ i → i < b → P i
    from P b here h i le lt = elim (cases_lt a i) [ inl above ↦ h i (omega (arith, above)) lt | inr upto ↦ subst P (let e : a ≡ i = omega (arith, le, upto) in e) here ]

    by_test : (b : Bool) → test a ≡ b → IsNone test (a + 1) n (find test (range_with_len (a + 1) n)) ⊎ IsFirst test (a + 1) n (find test (range_with_len (a + 1) n))
        → IsNone test a (suc n) (find test (range_with_len a (suc n))) ⊎ IsFirst test a (suc n) (find test (range_with_len a (suc n)))
    by_test true e rest =
        inr (record {
          at = a;
          is = ap (λ b. cond b (Some a) (find test (range_with_len (a + 1) n))) e;
          passes = e;
          low = omega arith;
          high = omega arith;
          before = λ i le lt. absurd (omega (arith, le, lt));
        })
    by_test false e rest =
        let skip : find test (range_with_len a (suc n)) ≡ find test (range_with_len (a + 1) n) = ap (λ b. cond b (Some a) (find test (range_with_len (a + 1) n))) e in
        elim rest [
          | inl none ↦ inl (record { is = skip ∙ none.is; all = from (λ i. test i ≡ false) (a + suc n) e (λ i le lt. none.all i le (omega (arith, lt))) })
          | inr some ↦ inr (record {
            at = some.at;
            is = skip ∙ some.is;
            passes = some.passes;
            low = (let l = some.low in omega (arith, l));
            high = (let h = some.high in omega (arith, h));
            before = from (λ i. test i ≡ false) some.at e some.before;
          })
        ]
