-- Two lists, place by place.
use Rattle.std.proofs.Common.{◌≡◌, ℕ, zero, suc, ◌+◌, ◌<◌, List, [], ◌∷◌, ◌++◌, length, take, set, sym, subst, refl, ap, ◌∙◌, arith}
use Rattle.std.specs.List.{AllZip}
use mathlib.Core.Option.{some, some-injective, some-ne-none}
use lib.ListN.{get_elem?}
use Rattle.std.specs.declared.snapshot.Snapshot.{Snapshot}
use Rattle.tb_pipeline.specs.Completions.{values_of}

module _ {A B : Type 0} (R : A → B → Type 0) where
  pub zip_length : (xs : List A) (ys : List B) → AllZip R xs ys → length ys ≡ length xs
  zip_length [] [] z = refl
  zip_length [] (y ∷ ys) z = absurd z
  zip_length (x ∷ xs) [] z = absurd z
  zip_length (x ∷ xs) (y ∷ ys) z = ap suc (zip_length xs ys z.1)

  pub zip_at : (xs : List A) (ys : List B) (i : ℕ) (x : A) (y : B) → AllZip R xs ys → get_elem? xs i ≡ some x → get_elem? ys i ≡ some y → R x y
  zip_at [] ys i x y z a b = absurd (some-ne-none x (sym a))
  zip_at (u ∷ xs) [] i x y z a b = absurd z
  zip_at (u ∷ xs) (v ∷ ys) zero x y z a b = subst (λ (t : A). R t y) (some-injective u x a) (subst (λ (t : B). R u t) (some-injective v y b) z.0)
  zip_at (u ∷ xs) (v ∷ ys) (suc i) x y z a b = zip_at xs ys i x y z.1 a b

  pub zip_set : (xs : List A) (ys : List B) (i : ℕ) (y : B) → AllZip R xs ys → ((x : A) → get_elem? xs i ≡ some x → R x y) → AllZip R xs (set ys i y)
  zip_set [] [] i y z r = tt
  zip_set [] (v ∷ ys) i y z r = absurd z
  zip_set (u ∷ xs) [] i y z r = absurd z
  zip_set (u ∷ xs) (v ∷ ys) zero y z r = (r u refl, z.1)
  zip_set (u ∷ xs) (v ∷ ys) (suc i) y z r = (z.0, zip_set xs ys i y z.1 r)

  zip_suc : (xs : List A) (ys : List B) (i : ℕ) (x : A) (y : B) → get_elem? xs i ≡ some x → AllZip R (take i xs) ys → R x y → AllZip R (take (suc i) xs) (ys ++ y ∷ [])
  zip_suc [] ys i x y e z r = absurd (some-ne-none x (sym e))
  zip_suc (u ∷ xs) [] zero x y e z r = (subst (λ (t : A). R t y) (sym (some-injective u x e)) r, tt)
  zip_suc (u ∷ xs) (v ∷ ys) zero x y e z r = absurd z
  zip_suc (u ∷ xs) [] (suc i) x y e z r = absurd z
  zip_suc (u ∷ xs) (v ∷ ys) (suc i) x y e z r = (z.0, zip_suc xs ys i x y e z.1 r)

  -- the pairs with one more
  pub zip_more : (xs : List A) (ys : List B) (i : ℕ) (x : A) (y : B) → get_elem? xs i ≡ some x → AllZip R (take i xs) ys → R x y → AllZip R (take (i + 1) xs) (ys ++ y ∷ [])
  zip_more xs ys i x y e z r = let more : suc i ≡ i + 1 = omega arith in subst (λ (n : ℕ). AllZip R (take n xs) (ys ++ y ∷ [])) more (zip_suc xs ys i x y e z r)

-- a list has an item at each place below its length
pub some_at : {A : Type 0} (xs : List A) (i : ℕ) → i < length xs → (x : A) × (get_elem? xs i ≡ some x)
some_at [] i h = absurd (omega arith)
some_at (x ∷ xs) zero h = (x, refl)
some_at (x ∷ xs) (suc i) h = some_at xs i (omega arith)

pub at_below : {A : Type 0} (xs : List A) (i : ℕ) (x : A) → get_elem? xs i ≡ some x → i < length xs
at_below [] i x e = absurd (some-ne-none x (sym e))
at_below (y ∷ xs) zero x e = omega arith
at_below (y ∷ xs) (suc i) x e = let t = at_below xs i x e in omega arith

pub values_more : {J : Type 0} (all : List (Snapshot J)) (s : Snapshot J) → values_of (all ++ s ∷ []) ≡ values_of all ++ s.value ∷ []
values_more [] s = refl
values_more (x ∷ all) s = ap (λ l. x.value ∷ l) (values_more all s)

take_suc : {A : Type 0} (xs : List A) (i : ℕ) (x : A) → get_elem? xs i ≡ some x → take (suc i) xs ≡ take i xs ++ x ∷ []
take_suc [] i x e = absurd (some-ne-none x (sym e))
take_suc (y ∷ xs) zero x e = ap (λ u. u ∷ []) (some-injective y x e)
take_suc (y ∷ xs) (suc i) x e = ap (λ l. y ∷ l) (take_suc xs i x e)

-- the snapshots of the first items with one more
pub values_taken : {J : Type 0} (all : List (Snapshot J)) (xs : List J) (i : ℕ) (s : Snapshot J) → values_of all ≡ take i xs → get_elem? xs i ≡ some s.value
    → values_of (all ++ s ∷ []) ≡ take (i + 1) xs
values_taken all xs i s before at =
    let more : suc i ≡ i + 1 = omega arith in
    values_more all s ∙ ap (λ l. l ++ s.value ∷ []) before ∙ sym (take_suc xs i s.value at) ∙ ap (λ n. take n xs) more
