-- One step may take or give back all slots: an act is a chain as long as the table has slots.
use Rattle.std.proofs.Common.{◌≡◌, ℕ, zero, suc, List, [], ◌∷◌, ◌++◌, map, length, set, sym, subst, refl, ap, ◌∙◌, arith, append_assoc, length-append}
use Rattle.std.proofs.Math.Seq.{set-append_seam}
use mathlib.Core.Option.{Option, some, none}
use lib.ListN.{get_elem?}
use Rattle.atomic_table.specs.Table.{Act, keeps, takes, gives, chain, Valid, homes_after, carried_after}
use Rattle.phase_board.specs.Slots.{numbered}

module _ {S : Type 0} where
  -- takes the slots from k on, which have the values xs, so that slot k is taken last
  abbrev pub take_from : ℕ → List S → Act S
  take_from k [] = keeps
  take_from k (x ∷ xs) = chain (take_from (suc k) xs) (takes k x)

  -- gives back as many slots as the list has
  abbrev pub give_all : List (ℕ × S) → Act S
  give_all [] = keeps
  give_all (x ∷ xs) = chain gives (give_all xs)

  abbrev pub nones : List S → List (Option S)
  nones xs = map (λ (x : S). let n : Option S = none in n) xs

  pub carried : (k : ℕ) (xs : List S) (c : List (ℕ × S)) → carried_after c (take_from k xs) ≡ numbered k xs ++ c
  carried k [] c = refl
  carried k (x ∷ xs) c = ap (λ (l : List (ℕ × S)). (k, x) ∷ l) (carried (suc k) xs c)

  at_seam : (front rest : List (Option S)) (y : Option S) (k : ℕ) → length front ≡ k → get_elem? (front ++ y ∷ rest) k ≡ some y
  at_seam [] rest y zero e = refl
  at_seam [] rest y (suc k) e = absurd (omega arith)
  at_seam (x ∷ front) rest y zero e = absurd (omega arith)
  at_seam (x ∷ front) rest y (suc k) e = at_seam front rest y k (omega arith)

  -- what is there after all are taken, where the slots below k stay
  pub emptied : (front : List (Option S)) (k : ℕ) (xs : List S) (c : List (ℕ × S)) → length front ≡ k → homes_after (front ++ map some xs) c (take_from k xs) ≡ front ++ nones xs
  emptied front k [] c e = refl
  emptied front k (x ∷ xs) c e =
      let assoc : (ys : List (Option S)) (y : Option S) → front ++ y ∷ ys ≡ (front ++ y ∷ []) ++ ys = λ ys y. sym (append_assoc front (y ∷ []) ys) in
      let n : length (front ++ some x ∷ []) ≡ suc k = length-append front (some x ∷ []) ∙ (omega arith) in
      let ih = emptied (front ++ some x ∷ []) (suc k) xs c n in
      let step : homes_after (front ++ map some (x ∷ xs)) c (take_from (suc k) xs) ≡ front ++ some x ∷ nones xs =
      ap (λ (h : List (Option S)). homes_after h c (take_from (suc k) xs)) (assoc (map some xs) (some x)) ∙ ih ∙ sym (assoc (nones xs) (some x)) in
      ap (λ (h : List (Option S)). set h k none) step ∙ (λ i. set (front ++ some x ∷ nones xs) (sym e i) none) ∙ set-append_seam front (some x) (nones xs) none

  pub valid : (front : List (Option S)) (k : ℕ) (xs : List S) (c : List (ℕ × S)) → length front ≡ k → Valid (front ++ map some xs) c (take_from k xs)
  valid front k [] c e = tt
  valid front k (x ∷ xs) c e =
      let assoc : (ys : List (Option S)) (y : Option S) → front ++ y ∷ ys ≡ (front ++ y ∷ []) ++ ys = λ ys y. sym (append_assoc front (y ∷ []) ys) in
      let n : length (front ++ some x ∷ []) ≡ suc k = length-append front (some x ∷ []) ∙ (omega arith) in
      let ih = valid (front ++ some x ∷ []) (suc k) xs c n in
      let step : homes_after (front ++ map some (x ∷ xs)) c (take_from (suc k) xs) ≡ front ++ some x ∷ nones xs =
      ap (λ (h : List (Option S)). homes_after h c (take_from (suc k) xs)) (assoc (map some xs) (some x)) ∙ emptied (front ++ some x ∷ []) (suc k) xs c n ∙ sym (assoc (nones xs) (some x)) in (
        subst (λ (h : List (Option S)). Valid h c (take_from (suc k) xs)) (sym (assoc (map some xs) (some x))) ih,
        subst (λ (h : List (Option S)). get_elem? h k ≡ some (some x)) (sym step) (at_seam front (nones xs) (some x) k e),
      )

  -- all that the seat holds comes home
  pub none_left : (c : List (ℕ × S)) → carried_after c (give_all c) ≡ []
  none_left [] = refl
  none_left (x ∷ c) = none_left c

  pub given_valid : (c : List (ℕ × S)) (h : List (Option S)) (d : List (ℕ × S)) → Valid h d (give_all c)
  given_valid [] h d = tt
  given_valid (x ∷ c) h d = (tt, given_valid c _ _)

  pub filled : (front old : List (Option S)) (k : ℕ) (xs : List S) → length front ≡ k → length old ≡ length xs →
      homes_after (front ++ old) (numbered k xs) (give_all (numbered k xs)) ≡ front ++ map some xs
  filled front [] k [] e w = refl
  filled front (y ∷ old) k [] e w = absurd (omega arith)
  filled front [] k (x ∷ xs) e w = absurd (omega arith)
  filled front (y ∷ old) k (x ∷ xs) e w =
      let assoc : (ys : List (Option S)) (y : Option S) → front ++ y ∷ ys ≡ (front ++ y ∷ []) ++ ys = λ ys y. sym (append_assoc front (y ∷ []) ys) in
      let n : length (front ++ some x ∷ []) ≡ suc k = length-append front (some x ∷ []) ∙ (omega arith) in
      let put : set (front ++ y ∷ old) k (some x) ≡ (front ++ some x ∷ []) ++ old = (λ i. set (front ++ y ∷ old) (sym e i) (some x)) ∙ set-append_seam front y old (some x) ∙ assoc old (some x) in
      ap (λ (h : List (Option S)). homes_after h (numbered (suc k) xs) (give_all (numbered (suc k) xs))) put ∙ filled (front ++ some x ∷ []) old (suc k) xs n (omega arith)
      ∙ sym (assoc (map some xs) (some x))
