-- Transmissions one after the other, by their places.
use Rattle.std.proofs.Common.{◌≡◌, ℕ, zero, suc, ◌+◌, List, [], ◌∷◌, ◌++◌, take, flat_map, slice_get, sum_by, Some, refl, sym, subst, ap, ◌∙◌, append_assoc, add-one, arith}
use Rattle.std.specs.declared.option.Option.{Option}
use Rattle.std.proofs.lemmas.List.{append-nil}
use Rattle.std.proofs.lemmas.List.Sums.{sum_by-cons}
use Rattle.rate_match.specs.declared.sends.Sending.{Sending}
use Rattle.gomzelat_c.specs.Transmissions.{transmission_of, transmissions_of}
use Rattle.gomzelat_c.specs.declared.transmission.Transmission.{Transmission}

flat_next : {X Y : Type 0} (f : X → List Y) (xs : List X) (i : ℕ) (x : X) → slice_get xs i ≡ Some x → flat_map f (take (suc i) xs) ≡ flat_map f (take i xs) ++ f x
flat_next f [] i x is = absurd (let no : ⊥ = cc in no)
flat_next f (y ∷ ys) zero x is = let same : y ≡ x = cc in append-nil (f y) ∙ ap f same
flat_next f (y ∷ ys) (suc i) x is = ap (λ zs. f y ++ zs) (flat_next f ys i x is) ∙ sym (append_assoc (f y) (flat_map f (take i ys)) (f x))

pub flat_more : {X Y : Type 0} (f : X → List Y) (xs : List X) (i : ℕ) (x : X) → slice_get xs i ≡ Some x → flat_map f (take (i + 1) xs) ≡ flat_map f (take i xs) ++ f x
flat_more f xs i x is = subst (λ (n : ℕ). flat_map f (take n xs) ≡ flat_map f (take i xs) ++ f x) (sym (add-one i)) (flat_next f xs i x is)

sum_next : {X : Type 0} (f : X → ℕ) (xs : List X) (i : ℕ) (x : X) → slice_get xs i ≡ Some x → sum_by f (take (suc i) xs) ≡ sum_by f (take i xs) + f x
sum_next f [] i x is = absurd (let no : ⊥ = cc in no)
sum_next f (y ∷ ys) zero x is =
    let same : y ≡ x = cc in
    let none : sum_by f [] ≡ 0 = refl in
    omega (arith, sum_by-cons f y [], none, ap f same)
sum_next f (y ∷ ys) (suc i) x is =
    let more : sum_by f (take (suc (suc i)) (y ∷ ys)) ≡ f y + sum_by f (take (suc i) ys) = sum_by-cons f y (take (suc i) ys) in
    let here : sum_by f (take (suc i) (y ∷ ys)) ≡ f y + sum_by f (take i ys) = sum_by-cons f y (take i ys) in
    omega (arith, more, here, sum_next f ys i x is)

pub sum_more : {X : Type 0} (f : X → ℕ) (xs : List X) (i : ℕ) (x : X) → slice_get xs i ≡ Some x → sum_by f (take (i + 1) xs) ≡ sum_by f (take i xs) + f x
sum_more f xs i x is = subst (λ (n : ℕ). sum_by f (take n xs) ≡ sum_by f (take i xs) + f x) (sym (add-one i)) (sum_next f xs i x is)

-- what is summed over what is sent, over what the caller tells
pub sum_sent : (f : Sending → ℕ) (limit : Option ℕ) (ts : List Transmission) → sum_by f (transmissions_of limit ts) ≡ sum_by (λ t. f (transmission_of limit t)) ts
sum_sent f limit [] = refl
sum_sent f limit (t ∷ ts) =
    let sent : sum_by f (transmissions_of limit (t ∷ ts)) ≡ f (transmission_of limit t) + sum_by f (transmissions_of limit ts) = sum_by-cons f (transmission_of limit t) (transmissions_of limit ts) in
    omega (arith, sent, sum_by-cons (λ x. f (transmission_of limit x)) t ts, sum_sent f limit ts)
