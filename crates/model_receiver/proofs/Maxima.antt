-- The greatest number of a list, and greatest numbers in general.
use Rattle.std.proofs.Common.{◌≡◌, ◌⊎◌, Bool, true, false, List, [], ◌∷◌, fold, map, filter, ℤ, ◌≤ℤ◌, refl, sym, ◌∙◌, subst, inl, inr, arith}
use Rattle.std.specs.Prelude.{int_lt}
use Rattle.std.specs.Int.{int_max}
use Rattle.std.proofs.lemmas.Int.{ints, clamps}
use Rattle.model_receiver.specs.Paths.{greatest, IsGreatest}
use Rattle.model_receiver.proofs.Members.{Member, member-map, member-unmap, member-filter, member-unfilter}

-- ---- the greater of two

pub max-left : (x y : ℤ) → x ≤ℤ int_max x y
max-left x y = omega (arith, ints, clamps)

pub max-right : (x y : ℤ) → y ≤ℤ int_max x y
max-right x y = omega (arith, ints, clamps)

pub max_is : (x y : ℤ) → (int_max x y ≡ x) ⊎ (int_max x y ≡ y)
max_is x y = max_cases (int_lt y x) x y refl
  where
    max_cases : (b : Bool) (x y : ℤ) → int_lt y x ≡ b → (int_max x y ≡ x) ⊎ (int_max x y ≡ y)
    max_cases true x y e = inl (rw e)
    max_cases false x y e = inr (rw e)

pub ≤ℤ-trans : (x y z : ℤ) → x ≤ℤ y → y ≤ℤ z → x ≤ℤ z
≤ℤ-trans x y z p q = omega (arith, ints)

-- ---- the greatest of a list

fold-start : (a : ℤ) (xs : List ℤ) → a ≤ℤ fold int_max a xs
fold-start a [] = omega (arith, ints)
fold-start a (x ∷ xs) = ≤ℤ-trans a (int_max a x) _ (max-left a x) (fold-start (int_max a x) xs)

fold-member : (a : ℤ) (xs : List ℤ) (y : ℤ) → Member y xs → y ≤ℤ fold int_max a xs
fold-member a [] y h = elim h [ ]
fold-member a (x ∷ xs) y h =
    elim h [
      | inl e ↦ subst (λ (z : ℤ). z ≤ℤ fold int_max (int_max a x) xs) (sym e) (≤ℤ-trans x (int_max a x) _ (max-right a x) (fold-start (int_max a x) xs))
      | inr later ↦ fold-member (int_max a x) xs y later
    ]

fold-inside : (a : ℤ) (xs : List ℤ) → (fold int_max a xs ≡ a) ⊎ Member (fold int_max a xs) xs
fold-inside a [] = inl refl
fold-inside a (x ∷ xs) =
    elim (fold-inside (int_max a x) xs) [
      | inl e ↦ elim (max_is a x) [ inl m ↦ inl (e ∙ m) | inr m ↦ inr (inl (e ∙ m)) ]
      | inr later ↦ inr (inr later)
    ]

pub greatest-bound : (xs : List ℤ) (y : ℤ) → Member y xs → y ≤ℤ greatest xs
greatest-bound [] y h = elim h [ ]
greatest-bound (x ∷ xs) y h =
    elim h [ inl e ↦ subst (λ (z : ℤ). z ≤ℤ fold int_max x xs) (sym e) (fold-start x xs) | inr later ↦ fold-member x xs y later ]

pub greatest-inside : (xs : List ℤ) (y : ℤ) → Member y xs → Member (greatest xs) xs
greatest-inside [] y h = elim h [ ]
greatest-inside (x ∷ xs) y h = elim (fold-inside x xs) [ inl e ↦ inl e | inr later ↦ inr later ]

-- ---- greatest numbers

-- there is one
pub greatest_one : {X : Type 0} (A : X → Type 0) (value : X → ℤ) (m n : ℤ) → IsGreatest A value m → IsGreatest A value n → m ≡ n
greatest_one A value m n h k =
    both m n (subst (λ (z : ℤ). z ≤ℤ n) h.attained.2 (k.bound h.attained.0 h.attained.1)) (subst (λ (z : ℤ). z ≤ℤ m) k.attained.2 (h.bound k.attained.0 k.attained.1))
  where
    both : (m n : ℤ) → m ≤ℤ n → n ≤ℤ m → m ≡ n
    both m n p q = omega (arith, ints)

-- that of the elements of a list that pass a test, where some element does
pub greatest-filtered : {X : Type 0} (xs : List X) (p : X → Bool) (value : X → ℤ) (some : X) → Member some xs → p some ≡ true
    → IsGreatest (λ x. Member x xs × (p x ≡ true)) value (greatest (map value (filter p xs)))
greatest-filtered xs p value some h pass = record {
  attained =
      let some_value = member-map value some (filter p xs) (member-filter p some xs h pass) in
      let w = member-unmap value (greatest (map value (filter p xs))) (filter p xs) (greatest-inside (map value (filter p xs)) (value some) some_value) in
      (w.0, member-unfilter p w.0 xs w.1, sym w.2);
  bound = λ x ok. greatest-bound (map value (filter p xs)) (value x) (member-map value x (filter p xs) (member-filter p x xs ok.0 ok.1));
}

-- the same number is the greatest over what is allowed in other words
pub greatest-reworded : {X : Type 0} (A B : X → Type 0) (value : X → ℤ) (m : ℤ) → ((x : X) → A x → B x) → ((x : X) → B x → A x) → IsGreatest A value m → IsGreatest B value m
greatest-reworded A B value m to back h = record {
  attained = (h.attained.0, to h.attained.0 h.attained.1, h.attained.2);
  bound = λ x ok. h.bound x (back x ok);
}
