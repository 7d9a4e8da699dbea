-- Lists of items, and sums over lists.
use Rattle.std.proofs.Common.{◌≡◌, ℕ, zero, suc, ◌+◌, ◌<◌, ◌≤◌, ◌⊎◌, inl, inr, List, [], ◌∷◌, ◌++◌, length, drop, set, sym, refl, ap, ◌∙◌, ⊎_elim, arith, length-append}
use Rattle.std.proofs.lemmas.List.Elements.{All-cons, All-nil}
use Rattle.std.proofs.lemmas.Bool.{cases_lt}
use Rattle.std.proofs.lemmas.Bool.Decides.{nat_tests}
use mathlib.Core.Option.{some, some-injective, some-ne-none}
use lib.ListN.{get_elem?}
use Rattle.tb_pipeline.specs.declared.known.Item.{Item}
use Rattle.tb_pipeline.specs.declared.known.Item.TheVariants.{Number, EndMark}
use Rattle.tb_pipeline.specs.Relays.{numbers, all_items, total, times, once_below, IsAbove, NoEndAt, IsEndAt}

module _ {A : Type 0} (f : A → ℕ) where
  pub total_set : (views : List A) (i : ℕ) (v w : A) → get_elem? views i ≡ some v → total f (set views i w) + f v ≡ total f views + f w
  total_set [] i v w e = absurd (some-ne-none v (sym e))
  total_set (x ∷ xs) zero v w e = let same : f x ≡ f v = ap f (some-injective x v e) in omega arith
  total_set (x ∷ xs) (suc i) v w e = let t = total_set xs i v w e in omega arith

  pub total_snoc : (views : List A) (v : A) → total f (views ++ v ∷ []) ≡ total f views + f v
  total_snoc [] v = omega arith
  total_snoc (x ∷ xs) v = let t = total_snoc xs v in omega arith

  pub total_at : (views : List A) (i : ℕ) (v : A) → get_elem? views i ≡ some v → f v ≤ total f views
  total_at [] i v e = absurd (some-ne-none v (sym e))
  total_at (x ∷ xs) zero v e = let same : f x ≡ f v = ap f (some-injective x v e) in omega arith
  total_at (x ∷ xs) (suc i) v e = let t = total_at xs i v e in omega arith

pub only_one : {A : Type 0} (views : List A) (j pass : ℕ) (u v : A) → length views ≡ 1 → get_elem? views j ≡ some u → get_elem? views pass ≡ some v → j ≡ pass
only_one [] j pass u v e a b = absurd (omega arith)
only_one (x ∷ []) zero zero u v e a b = refl
only_one (x ∷ []) zero (suc i) u v e a b = absurd (some-ne-none v (sym b))
only_one (x ∷ []) (suc j) i u v e a b = absurd (some-ne-none u (sym a))
only_one (x ∷ y ∷ xs) j pass u v e a b = absurd (omega arith)

pub times_append : (x : ℕ) (xs ys : List ℕ) → times x (xs ++ ys) ≡ times x xs + times x ys
times_append x [] ys = omega arith
times_append x (y ∷ xs) ys = let t = times_append x xs ys in omega arith

-- what is in a list is there once at least
pub times_last : (places : List ℕ) (x : ℕ) → 1 ≤ times x (places ++ x ∷ [])
times_last places x = let t = times_append x places (x ∷ []) in let one : times x (x ∷ []) ≡ 1 = grind (arith, nat_tests) in omega arith

-- a number is above a list in which neither it nor a greater one is
pub above_each : (places : List ℕ) (place : ℕ) → ((k : ℕ) → place ≤ k → times k places ≡ 0) → IsAbove places place
above_each [] place none = All-nil (λ (earlier : ℕ). earlier < place)
above_each (y ∷ places) place none =
    All-cons (λ (earlier : ℕ). earlier < place) y places
    (⊎_elim (λ (below : y < place). below) (λ (above : place ≤ y). absurd (let n : times y (y ∷ places) ≡ 0 = none y above in let o : times y (y ∷ []) ≡ 1 = grind (arith, nat_tests) in omega arith))
    (cases_lt y place))
    (above_each places place (λ k le. let n : times k (y ∷ places) ≡ 0 = none k le in omega arith))

pub once_more : (x n : ℕ) → once_below x (n + 1) ≡ once_below x n + times x (n ∷ [])
once_more x n = grind (arith, nat_tests)

pub once_at : (x n : ℕ) → x < n → once_below x n ≡ 1
once_at x n lt = grind (arith, nat_tests)

pub below_once : (x n : ℕ) → 1 ≤ once_below x n → x < n
below_once x n one = grind (arith, nat_tests)

pub none_above : (x n : ℕ) → n ≤ x → once_below x n ≡ 0
none_above x n le = grind (arith, nat_tests)

pub first_left : {A : Type 0} (g : ℕ) (put items : List A) (x : A) → x ∷ items ≡ drop g put → (get_elem? put g ≡ some x) × (items ≡ drop (suc g) put) × (g < length put)
first_left zero [] items x e = absurd (let f : suc (length items) ≡ 0 = ap length e in omega arith)
first_left {A} zero (y ∷ put) items x e = (ap some (sym (ap (hd x) e)), ap tl e, omega arith)
  where
    hd : A → List A → A
    hd d [] = d
    hd d (z ∷ zs) = z

    tl : List A → List A
    tl [] = []
    tl (z ∷ zs) = zs
first_left (suc g) [] items x e = absurd (let f : suc (length items) ≡ 0 = ap length e in omega arith)
first_left (suc g) (y ∷ put) items x e = let t = first_left g put items x e in (t.0, t.1, (let l = t.2 in omega arith))

-- an item of a list with one more at its end
at_end : {A : Type 0} (l : List A) (a x : A) (j : ℕ) → get_elem? (l ++ a ∷ []) j ≡ some x → (get_elem? l j ≡ some x) ⊎ ((j ≡ length l) × (a ≡ x))
at_end [] a x zero e = inr (refl, some-injective a x e)
at_end [] a x (suc j) e = absurd (some-ne-none x (sym e))
at_end (y ∷ l) a x zero e = inl e
at_end (y ∷ l) a x (suc j) e = ⊎_elim (λ p. inl p) (λ (p : (j ≡ length l) × (a ≡ x)). inr (ap suc p.0, p.1)) (at_end l a x j e)

length_numbers : (n : ℕ) → length (numbers n) ≡ n
length_numbers zero = refl
length_numbers (suc n) = let a = length-append (numbers n) (Number n ∷ []) in let t = length_numbers n in omega arith

length_items : (count hands : ℕ) → length (all_items count hands) ≡ count + hands
length_items count zero = let t = length_numbers count in omega arith
length_items count (suc hands) = let a = length-append (all_items count hands) (EndMark ∷ []) in let t = length_items count hands in omega arith

at_number : (n j : ℕ) (x : Item) → get_elem? (numbers n) j ≡ some x → (Number j ≡ x) × (j < n)
at_number zero j x e = absurd (some-ne-none x (sym e))
at_number (suc n) j x e = ⊎_elim (λ (p : get_elem? (numbers n) j ≡ some x). let t = at_number n j x p in (t.0, (let l = t.1 in omega arith)))
    (λ (p : (j ≡ length (numbers n)) × (Number n ≡ x)). let same : j ≡ n = p.0 ∙ length_numbers n in (ap Number same ∙ p.1, omega arith)) (at_end (numbers n) (Number n) x j e)

-- what is at a place: its number below the count, and else an end mark
pub at_place : (count hands j : ℕ) (x : Item) → get_elem? (all_items count hands) j ≡ some x
    → ((Number j ≡ x) × (j < count)) ⊎ ((EndMark ≡ x) × (count ≤ j) × (j < count + hands))
at_place count zero j x e = inl (at_number count j x e)
at_place count (suc hands) j x e = ⊎_elim
    (λ (p : get_elem? (all_items count hands) j ≡ some x).
    ⊎_elim (λ q. inl q) (λ (q : (EndMark ≡ x) × (count ≤ j) × (j < count + hands)). inr (q.0, q.1, (let l = q.2 in omega arith))) (at_place count hands j x p))
    (λ (p : (j ≡ length (all_items count hands)) × (EndMark ≡ x)). let same : j ≡ count + hands = p.0 ∙ length_items count hands in inr (p.1, omega arith, omega arith))
    (at_end (all_items count hands) EndMark x j e)

pub no_end_snoc : (all : List Item) (places : List ℕ) (g : ℕ) → ¬ IsEndAt all g → NoEndAt all places → NoEndAt all (places ++ g ∷ [])
no_end_snoc all [] g other before = (other, tt)
no_end_snoc all (x ∷ places) g other before = (before.0, no_end_snoc all places g other before.1)
