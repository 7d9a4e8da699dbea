-- The elements of lists that are mapped, filtered and joined.
use Rattle.std.proofs.Common.{◌≡◌, ◌⊎◌, Bool, true, false, cond, List, [], ◌∷◌, ◌++◌, map, filter, refl, sym, ap, ◌∙◌, subst, inl, inr}
use Rattle.std.specs.Prelude.{flat_map}

-- x stands in the list
abbrev pub Member : {X : Type 0} → X → List X → Type 0
Member x [] = ⊥
Member x (y ∷ ys) = (x ≡ y) ⊎ Member x ys

pub member-append_left : {X : Type 0} (x : X) (xs ys : List X) → Member x xs → Member x (xs ++ ys)
member-append_left x [] ys h = elim h [ ]
member-append_left x (y ∷ xs) ys h = elim h [ inl e ↦ inl e | inr later ↦ inr (member-append_left x xs ys later) ]

pub member-append_right : {X : Type 0} (x : X) (xs ys : List X) → Member x ys → Member x (xs ++ ys)
member-append_right x [] ys h = h
member-append_right x (y ∷ xs) ys h = inr (member-append_right x xs ys h)

pub member-append_cases : {X : Type 0} (x : X) (xs ys : List X) → Member x (xs ++ ys) → Member x xs ⊎ Member x ys
member-append_cases x [] ys h = inr h
member-append_cases x (y ∷ xs) ys h =
    elim h [
      | inl e ↦ inl (inl e)
      | inr later ↦ elim (member-append_cases x xs ys later) [ inl a ↦ inl (inr a) | inr b ↦ inr b ]
    ]

pub member-map : {X Y : Type 0} (f : X → Y) (x : X) (xs : List X) → Member x xs → Member (f x) (map f xs)
member-map f x [] h = elim h [ ]
member-map f x (y ∷ xs) h = elim h [ inl e ↦ inl (ap f e) | inr later ↦ inr (member-map f x xs later) ]

pub member-unmap : {X Y : Type 0} (f : X → Y) (y : Y) (xs : List X) → Member y (map f xs) → (x : X) × Member x xs × (y ≡ f x)
member-unmap f y [] h = elim h [ ]
member-unmap f y (x ∷ xs) h =
    elim h [ inl e ↦ (x, inl refl, e) | inr later ↦ (let w = member-unmap f y xs later in (w.0, inr w.1, w.2)) ]

pub member-filter : {X : Type 0} (p : X → Bool) (x : X) (xs : List X) → Member x xs → p x ≡ true → Member x (filter p xs)
member-filter p x [] h pass = elim h [ ]
member-filter {X} p x (y ∷ xs) h pass =
    elim h [
      | inl e ↦ subst (λ (b : Bool). Member x (cond b (y ∷ filter p xs) (filter p xs))) (sym (sym (ap p e) ∙ pass)) (inl e)
      | inr later ↦ more (p y) (member-filter p x xs later pass)
    ]
  where
    more : (b : Bool) → Member x (filter p xs) → Member x (cond b (y ∷ filter p xs) (filter p xs))
    more true h = inr h
    more false h = h

pub member-unfilter : {X : Type 0} (p : X → Bool) (x : X) (xs : List X) → Member x (filter p xs) → Member x xs × (p x ≡ true)
member-unfilter p x [] h = elim h [ ]
member-unfilter {X} p x (y ∷ xs) h = by_test (λ later. let w = member-unfilter p x xs later in (inr w.0, w.1)) (p y) refl h
  where
    by_test : (Member x (filter p xs) → Member x (y ∷ xs) × (p x ≡ true)) → (b : Bool) → p y ≡ b → Member x (cond b (y ∷ filter p xs) (filter p xs)) → Member x (y ∷ xs) × (p x ≡ true)
    by_test out true pass h = elim h [ inl e ↦ (inl e, ap p e ∙ pass) | inr later ↦ out later ]
    by_test out false pass h = out h

pub member-flat_map : {X Y : Type 0} (f : X → List Y) (x : X) (y : Y) (xs : List X) → Member x xs → Member y (f x) → Member y (flat_map f xs)
member-flat_map f x y [] h k = elim h [ ]
member-flat_map f x y (z ∷ xs) h k =
    elim h [
      | inl e ↦ member-append_left y (f z) (flat_map f xs) (subst (λ v. Member y (f v)) e k)
      | inr later ↦ member-append_right y (f z) (flat_map f xs) (member-flat_map f x y xs later k)
    ]

pub member-unflat_map : {X Y : Type 0} (f : X → List Y) (y : Y) (xs : List X) → Member y (flat_map f xs) → (x : X) × Member x xs × Member y (f x)
member-unflat_map f y [] h = elim h [ ]
member-unflat_map f y (x ∷ xs) h =
    elim (member-append_cases y (f x) (flat_map f xs) h) [
      | inl a ↦ (x, inl refl, a)
      | inr b ↦ (let w = member-unflat_map f y xs b in (w.0, inr w.1, w.2))
    ]
