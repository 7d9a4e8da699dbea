-- Sums over all views, where one view changes, and how often a number is in a list.
use Rattle.std.proofs.Common.{◌≡◌, ℕ, zero, suc, ◌+◌, ◌<◌, ◌≤◌, List, [], ◌∷◌, ◌++◌, set, sym, ap, arith}
use mathlib.Core.Option.{some, some-injective, some-ne-none}
use lib.ListN.{get_elem?}
use Rattle.std.proofs.lemmas.Bool.Decides.{nat_tests}
use Rattle.phase_board.specs.Numbers.{total, times, once_below}

module _ {A : Type 0} (f : A → ℕ) where
  pub total_set : (views : List A) (i : ℕ) (v w : A) → get_elem? views i ≡ some v → total f (set views i w) + f v ≡ total f views + f w
  total_set [] i v w e = absurd (some-ne-none v (sym e))
  total_set (x ∷ xs) zero v w e = let same : f x ≡ f v = ap f (some-injective x v e) in omega arith
  total_set (x ∷ xs) (suc i) v w e = let t = total_set xs i v w e in omega arith

  pub total_snoc : (views : List A) (v : A) → total f (views ++ v ∷ []) ≡ total f views + f v
  total_snoc [] v = omega arith
  total_snoc (x ∷ xs) v = let t = total_snoc xs v in omega arith

  pub part_of_total : (views : List A) (i : ℕ) (v : A) → get_elem? views i ≡ some v → f v ≤ total f views
  part_of_total [] i v e = absurd (some-ne-none v (sym e))
  part_of_total (x ∷ xs) zero v e = let same : f x ≡ f v = ap f (some-injective x v e) in omega arith
  part_of_total (x ∷ xs) (suc i) v e = let t = part_of_total xs i v e in omega arith

pub times_append : (x : ℕ) (xs ys : List ℕ) → times x (xs ++ ys) ≡ times x xs + times x ys
times_append x [] ys = omega arith
times_append x (y ∷ xs) ys = let t = times_append x xs ys in omega arith

pub once_more : (x n : ℕ) → once_below x (n + 1) ≡ once_below x n + times x (n ∷ [])
once_more x n = grind (arith, nat_tests)

pub not_there : (x n : ℕ) → n < x → times x (n ∷ []) ≡ 0
not_there x n lt = grind (arith, nat_tests)

pub once_small : (x n : ℕ) → once_below x n ≤ 1
once_small x n = grind (arith, nat_tests)
