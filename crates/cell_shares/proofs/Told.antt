-- Cells that have the values of a list: their values are those of the list at their places.
use Rattle.std.proofs.Common.{◌≡◌, ℕ, zero, suc, ◌+◌, List, [], ◌∷◌, ◌++◌, length, get_or, map, refl, sym, ap, ◌∙◌, subst, arith}
use lib.ListN.{take, drop, length-map}
use Rattle.std.proofs.lemmas.List.{length-append}
use Rattle.std.specs.List.{range_with_len}
use Rattle.std.proofs.lemmas.List.{take-append-drop}
use Rattle.std.proofs.Math.Seq.{take-append_seam, drop-append_seam}
use Rattle.std.proofs.lemmas.List.FromFn.{length-range_with_len}
use Rattle.cell_shares.specs.Deal.{values_at}
use Rattle.cell_shares.specs.Parts.{places, values, Shuffled, nothing_left, under, turned, then_on}

module _ {X : Type 0} where
  -- each cell has the value of v at its place
  abbrev pub Tells : List X → List (ℕ × X) → Type 0
  Tells v [] = Unit {0}
  Tells v (c ∷ cs) = (take 1 (drop c.0 v) ≡ c.1 ∷ []) × Tells v cs

  pub told_values : (v : List X) (cs : List (ℕ × X)) → Tells v cs → values cs ≡ values_at v (places cs)
  told_values v [] t = refl
  told_values v (c ∷ cs) t = λ i. sym t.0 i ++ told_values v cs t.1 i

  pub tells_shuffled : (v : List X) (cs ds : List (ℕ × X)) → Shuffled cs ds → Tells v cs → Tells v ds
  tells_shuffled v _ _ nothing_left t = t
  tells_shuffled v _ _ (under c cs ds s) t = (t.0, tells_shuffled v cs ds s t.1)
  tells_shuffled v _ _ (turned c d cs) t = (t.1.0, (t.0, t.1.1))
  tells_shuffled v _ _ (then_on cs ds es s r) t = tells_shuffled v ds es r (tells_shuffled v cs ds s t)

  pub tells_shuffled_back : (v : List X) (cs ds : List (ℕ × X)) → Shuffled cs ds → Tells v ds → Tells v cs
  tells_shuffled_back v _ _ nothing_left t = t
  tells_shuffled_back v _ _ (under c cs ds s) t = (t.0, tells_shuffled_back v cs ds s t.1)
  tells_shuffled_back v _ _ (turned c d cs) t = (t.1.0, (t.0, t.1.1))
  tells_shuffled_back v _ _ (then_on cs ds es s r) t = tells_shuffled_back v cs ds s (tells_shuffled_back v ds es r t)

  pub tells_first : (v : List X) (cs ds : List (ℕ × X)) → Tells v (cs ++ ds) → Tells v cs
  tells_first v [] ds t = tt
  tells_first v (c ∷ cs) ds t = (t.0, tells_first v cs ds t.1)

  pub tells_others : (v : List X) (cs ds : List (ℕ × X)) → Tells v (cs ++ ds) → Tells v ds
  tells_others v [] ds t = t
  tells_others v (c ∷ cs) ds t = tells_others v cs ds t.1

  pub tells_take : (v : List X) (n : ℕ) (cs : List (ℕ × X)) → Tells v cs → Tells v (take n cs)
  tells_take v n cs t = tells_first v (take n cs) (drop n cs) (subst (Tells v) (sym (take-append-drop n cs)) t)

  pub tells_drop : (v : List X) (n : ℕ) (cs : List (ℕ × X)) → Tells v cs → Tells v (drop n cs)
  tells_drop v n cs t = tells_others v (take n cs) (drop n cs) (subst (Tells v) (sym (take-append-drop n cs)) t)

  drop_next : (k : ℕ) (v : List X) (x : X) (xs : List X) → drop k v ≡ x ∷ xs → drop (k + 1) v ≡ xs
  drop_next zero v x xs e = ap (drop 1) e
  drop_next (suc k) [] x xs e = let no : 0 ≡ suc (length xs) = ap length e in absurd (omega (arith, no))
  drop_next (suc k) (y ∷ v) x xs e = let s : suc k + 1 ≡ suc (k + 1) = omega arith in ap (λ (m : ℕ). drop m (y ∷ v)) s ∙ drop_next k v x xs e

  tells_from : (k n : ℕ) (v : List X) (cs : List (ℕ × X)) → places cs ≡ range_with_len k n → drop k v ≡ values cs → Tells v cs
  tells_from k n v [] e d = tt
  tells_from k zero v (c ∷ cs) e d = let no : suc (length (places cs)) ≡ 0 = ap length e in absurd (omega (arith, no))
  tells_from k (suc n) v (c ∷ cs) e d =
      let first : c.0 ≡ k = ap (λ (l : List ℕ). get_or l 0 0) e in
      (ap (λ (m : ℕ). take 1 (drop m v)) first ∙ ap (take 1) d, tells_from (k + 1) n v cs (ap (drop 1) e) (drop_next k v c.1 (values cs) d))

  -- cells in order of their places, all of them
  pub tells_all : (n : ℕ) (cs : List (ℕ × X)) → places cs ≡ range_with_len 0 n → Tells (values cs) cs
  tells_all n cs e = tells_from 0 n (values cs) cs e refl

pub range-append : (a w n : ℕ) → range_with_len a (w + n) ≡ range_with_len a w ++ range_with_len (a + w) n
range-append a zero n = λ i. range_with_len (let e : a ≡ a + 0 = omega arith in e i) (let m : 0 + n ≡ n = omega arith in m i)
range-append a (suc w) n =
    let e : suc w + n ≡ suc (w + n) = omega arith in let s : (a + 1) + w ≡ a + suc w = omega arith in
    ap (range_with_len a) e ∙ ap (λ (l : List ℕ). a ∷ l) (range-append (a + 1) w n ∙ ap (λ (m : ℕ). range_with_len (a + 1) w ++ range_with_len m n) s)

pub map-append : {X Y : Type 0} (f : X → Y) (xs ys : List X) → map f (xs ++ ys) ≡ map f xs ++ map f ys
map-append f [] ys = refl
map-append f (x ∷ xs) ys = ap (λ (l : List _). f x ∷ l) (map-append f xs ys)

-- one more, and one less, of a list of which each element tells its number
pub pushed : {X Y : Type 0} (g : X → Y) (h : ℕ → Y) (t : ℕ) (xs : List X) (x : X) → map g xs ≡ map h (range_with_len 0 t) → g x ≡ h t
    → map g (xs ++ x ∷ []) ≡ map h (range_with_len 0 (t + 1))
pushed g h t xs x e is =
    map-append g xs (x ∷ []) ∙ ((λ i. e i ++ is i ∷ [])
    ∙ (sym (map-append h (range_with_len 0 t) (t ∷ [])) ∙ ap (map h) (sym (range-append 0 t 1 ∙ ap (λ (n : ℕ). range_with_len 0 t ++ n ∷ []) (let z : 0 + t ≡ t = omega arith in z)))))

module _ {X Y : Type 0} (g : X → Y) (h : ℕ → Y) (t : ℕ) (xs : List X) (x : X) (e : map g (xs ++ x ∷ []) ≡ map h (range_with_len 0 (t + 1))) where
  both : map g xs ++ g x ∷ [] ≡ map h (range_with_len 0 t) ++ h t ∷ []
  both =
      sym (map-append g xs (x ∷ [])) ∙ (e ∙ (ap (map h) (range-append 0 t 1 ∙ ap (λ (n : ℕ). range_with_len 0 t ++ n ∷ []) (let z : 0 + t ≡ t = omega arith in z))
      ∙ map-append h (range_with_len 0 t) (t ∷ [])))

  before-long : length (map g xs) ≡ length (map h (range_with_len 0 t))
  before-long =
      let a : length (map g xs ++ g x ∷ []) ≡ length (map g xs) + 1 = length-append (map g xs) (g x ∷ []) in
      let b : length (map h (range_with_len 0 t) ++ h t ∷ []) ≡ length (map h (range_with_len 0 t)) + 1 = length-append (map h (range_with_len 0 t)) (h t ∷ []) in
      let c : length (map g xs ++ g x ∷ []) ≡ length (map h (range_with_len 0 t) ++ h t ∷ []) = ap length both in omega (arith, a, b, c)

  pub popped : map g xs ≡ map h (range_with_len 0 t)
  popped =
      sym (take-append_seam (map g xs) (g x ∷ [])) ∙ (ap (take (length (map g xs))) both ∙ (ap (λ (n : ℕ). take n (map h (range_with_len 0 t) ++ h t ∷ [])) before-long
      ∙ take-append_seam (map h (range_with_len 0 t)) (h t ∷ [])))

  pub last_is : g x ≡ h t
  last_is = ap (λ (l : List Y). get_or l 0 (h t))
      (sym (drop-append_seam (map g xs) (g x ∷ [])) ∙ (ap (drop (length (map g xs))) both ∙ (ap (λ (n : ℕ). drop n (map h (range_with_len 0 t) ++ h t ∷ [])) before-long
      ∙ drop-append_seam (map h (range_with_len 0 t)) (h t ∷ []))))

pub run-append : (f : ℕ → ℕ) (a w n : ℕ) → map f (range_with_len a (w + n)) ≡ map f (range_with_len a w) ++ map f (range_with_len (a + w) n)
run-append f a w n = ap (map f) (range-append a w n) ∙ map-append f (range_with_len a w) (range_with_len (a + w) n)

pub run-long : (f : ℕ → ℕ) (a w : ℕ) → length (map f (range_with_len a w)) ≡ w
run-long f a w = length-map (range_with_len a w) f ∙ length-range_with_len a w

map-take : {X : Type 0} (n : ℕ) (cs : List (ℕ × X)) → places (take n cs) ≡ take n (places cs)
map-take zero cs = refl
map-take (suc n) [] = refl
map-take (suc n) (c ∷ cs) = ap (λ (l : List ℕ). c.0 ∷ l) (map-take n cs)

map-drop : {X : Type 0} (n : ℕ) (cs : List (ℕ × X)) → places (drop n cs) ≡ drop n (places cs)
map-drop zero cs = refl
map-drop (suc n) [] = refl
map-drop (suc n) (c ∷ cs) = map-drop n cs

-- the first cells and the others, where the cells stand at the values of f from a on
module _ {X : Type 0} (f : ℕ → ℕ) (a w n : ℕ) (cs : List (ℕ × X)) (at : places cs ≡ map f (range_with_len a (w + n))) where
  pub places-take : places (take w cs) ≡ map f (range_with_len a w)
  places-take =
      map-take w cs ∙ ap (take w) (at ∙ run-append f a w n)
      ∙ ap (λ (k : ℕ). take k (map f (range_with_len a w) ++ map f (range_with_len (a + w) n))) (sym (run-long f a w))
      ∙ take-append_seam (map f (range_with_len a w)) (map f (range_with_len (a + w) n))

  pub places-drop : places (drop w cs) ≡ map f (range_with_len (a + w) n)
  places-drop =
      map-drop w cs ∙ ap (drop w) (at ∙ run-append f a w n)
      ∙ ap (λ (k : ℕ). drop k (map f (range_with_len a w) ++ map f (range_with_len (a + w) n))) (sym (run-long f a w))
      ∙ drop-append_seam (map f (range_with_len a w)) (map f (range_with_len (a + w) n))
