-- An order is a shuffle of the places below its size.
use Rattle.std.proofs.Common.{◌≡◌, ◌≢◌, ◌⊎◌, ℕ, zero, suc, ◌+◌, ◌<◌, ◌≤◌, List, [], ◌∷◌, length, map, refl, sym, ap, ◌∙◌, subst, inl, inr, arith}
use Rattle.std.specs.List.{range_with_len}
use Rattle.std.proofs.lemmas.Bool.{cases_lt}
use Rattle.std.proofs.lemmas.List.FromFn.{length-range_with_len}
use Rattle.qpp_table.specs.Qpp.{value_at}
use Rattle.qpp_table.specs.QppLaws.{value-below, values_differ}
use Rattle.cell_shares.specs.declared.order.Order.{Order}
use Rattle.cell_shares.specs.declared.order.Order.TheVariants.{Natural, Interleaved}
use Rattle.cell_shares.specs.Orders.{place_in, IsOrderOf, order_places}
use Rattle.cell_shares.specs.Parts.{Shuffled, nothing_left, under, turned, then_on}

abbrev pub Has : ℕ → List ℕ → Type 0
Has x [] = ⊥
Has x (y ∷ ys) = (y ≡ x) ⊎ Has x ys

-- the list without one of its elements
record Removed (x : ℕ) (xs : List ℕ) : Type 0 where
  pub rest : List ℕ
  pub shuffled : Shuffled xs (x ∷ rest)
  pub long : length xs ≡ suc (length rest)
  pub stays : (z : ℕ) → z ≢ x → Has z xs → Has z rest

same : {X : Type 0} (xs : List X) → Shuffled xs xs
same [] = nothing_left
same (x ∷ xs) = under x xs xs (same xs)

removed : (x : ℕ) (xs : List ℕ) → Has x xs → Removed x xs
removed x [] h = absurd h
removed x (y ∷ ys) (inl e) = record {
  rest = ys;
  shuffled = subst (λ (z : ℕ). Shuffled (y ∷ ys) (z ∷ ys)) e (same (y ∷ ys));
  long = refl;
  stays = λ z other h. elim h [ inl is ↦ absurd (other (sym is ∙ e)) | inr in_rest ↦ in_rest ];
}
removed x (y ∷ ys) (inr h) = let r = removed x ys h in record {
  rest = y ∷ r.rest;
  shuffled = then_on (y ∷ ys) (y ∷ x ∷ r.rest) (x ∷ y ∷ r.rest) (under y ys (x ∷ r.rest) r.shuffled) (turned y x r.rest);
  long = ap suc r.long;
  stays = λ z other g. elim g [ inl is ↦ inl is | inr in_rest ↦ inr (r.stays z other in_rest) ];
}

-- a list that has all values of f from a on, and no more elements than these
shuffle_to : (f : ℕ → ℕ) (n a : ℕ) (xs : List ℕ) → length xs ≡ n → ((i : ℕ) → a ≤ i → i < a + n → Has (f i) xs)
    → ((i j : ℕ) → a ≤ i → i < a + n → a ≤ j → j < a + n → f i ≡ f j → i ≡ j) → Shuffled xs (map f (range_with_len a n))
shuffle_to f zero a [] long has apart = nothing_left
shuffle_to f zero a (x ∷ xs) long has apart = let no : suc (length xs) ≡ 0 = long in absurd (omega (arith, no))
shuffle_to f (suc n) a xs long has apart =
    let r = removed (f a) xs (has a (omega arith) (omega arith)) in
    let rest_long : length r.rest ≡ n = let l : suc (length r.rest) ≡ suc n = sym r.long ∙ long in omega (arith, l) in
    then_on xs (f a ∷ r.rest) (map f (range_with_len a (suc n))) r.shuffled (under (f a) r.rest (map f (range_with_len (a + 1) n))
    (shuffle_to f n (a + 1) r.rest rest_long
    (λ i low high. r.stays (f i) (λ e. let is : i ≡ a = apart i a (omega (arith, low)) (omega (arith, high)) (omega arith) (omega arith) e in absurd (omega (arith, is, low)))
    (has i (omega (arith, low)) (omega (arith, high))))
    (λ i j li hi lj hj. apart i j (omega (arith, li)) (omega (arith, hi)) (omega (arith, lj)) (omega (arith, hj)))))

has_range : (n a x : ℕ) → a ≤ x → x < a + n → Has x (range_with_len a n)
has_range zero a x low high = absurd (omega (arith, low, high))
has_range (suc n) a x low high =
    elim (cases_lt a x) [ inl above ↦ inr (has_range n (a + 1) x (omega (arith, above)) (omega (arith, high))) | inr not_above ↦ inl (omega (arith, low, not_above)) ]

pub place-below : (order : Order) (k i : ℕ) → IsOrderOf k order → i < k → place_in order i < k
place-below Natural k i is h = h
place-below (Interleaved q) k i is h = subst (λ (m : ℕ). value_at q i < m) is (value-below q i (subst (λ (m : ℕ). i < m) (sym is) h))

places_differ : (order : Order) (k i j : ℕ) → IsOrderOf k order → i < k → j < k → place_in order i ≡ place_in order j → i ≡ j
places_differ Natural k i j is hi hj e = e
places_differ (Interleaved q) k i j is hi hj e = values_differ q i j (subst (λ (m : ℕ). i < m) (sym is) hi) (subst (λ (m : ℕ). j < m) (sym is) hj) e

-- what deals the places
pub dealt_places : (order : Order) (k : ℕ) → IsOrderOf k order → Shuffled (range_with_len 0 k) (order_places order k)
dealt_places order k is =
    shuffle_to (λ i. place_in order i) k 0 (range_with_len 0 k) (length-range_with_len 0 k)
    (λ i low high. has_range k 0 (place_in order i) (omega arith) (let b = place-below order k i is (omega (arith, high)) in omega (arith, b)))
    (λ i j li hi lj hj. places_differ order k i j is (omega (arith, hi)) (omega (arith, hj)))

natural : (xs : List ℕ) → map (λ i. place_in Natural i) xs ≡ xs
natural [] = refl
natural (x ∷ xs) = ap (λ (l : List ℕ). x ∷ l) (natural xs)

pub natural_places : (k : ℕ) → order_places Natural k ≡ range_with_len 0 k
natural_places k = natural (range_with_len 0 k)

back : {X : Type 0} (xs ys : List X) → Shuffled xs ys → Shuffled ys xs
back _ _ nothing_left = nothing_left
back _ _ (under x xs ys s) = under x ys xs (back xs ys s)
back _ _ (turned x y xs) = turned y x xs
back _ _ (then_on xs ys zs s t) = then_on zs ys xs (back ys zs t) (back xs ys s)

-- and what brings them back
pub joined_places : (order : Order) (k : ℕ) → IsOrderOf k order → Shuffled (order_places order k) (order_places Natural k)
joined_places order k is = subst (λ (l : List ℕ). Shuffled (order_places order k) l) (sym (natural_places k)) (back (range_with_len 0 k) (order_places order k) (dealt_places order k is))

-- of equal lists
pub shuffled_same : {X : Type 0} (xs ys : List X) → xs ≡ ys → Shuffled xs ys
shuffled_same {X} xs ys e = subst (λ (l : List X). Shuffled xs l) e (same xs)
