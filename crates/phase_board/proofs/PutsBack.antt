-- The pieces go back into the slots that a seat has, one after another.
use Rattle.std.proofs.Common.{◌≡◌, ℕ, suc, ◌+◌, ◌<◌, ◌≤◌, List, [], ◌∷◌, ◌++◌, map, length, take, drop, replicate, reverse, sym, refl, ap, ◌∙◌, arith, append_assoc, length-append}
use Rattle.std.proofs.lemmas.List.{reverse-append, map-append, length-map, length-take-le, drop_all, take_all, reverse-reverse}
use Rattle.atomic_table.specs.Table.{rest, turned}
use Rattle.phase_board.specs.declared.view.Slot.{Slot}
use Rattle.phase_board.specs.declared.view.Slot.TheVariants.{Empty, Piece}
use Rattle.phase_board.specs.Slots.{numbered, emptied}
use Rattle.phase_board.proofs.TakesOut.{next_left}

numbered_more : {S : Type 0} (k : ℕ) (xs : List S) (y : S) → numbered k xs ++ (k + length xs, y) ∷ [] ≡ numbered k (xs ++ y ∷ [])
numbered_more k [] y = ap (λ (z : ℕ). (z, y) ∷ []) (omega arith)
numbered_more k (x ∷ xs) y = ap (λ (l : List (ℕ × _)). (k, x) ∷ l) (ap (λ (z : ℕ). numbered (suc k) xs ++ (z, y) ∷ []) (omega arith) ∙ numbered_more (suc k) xs y)

module _ (P C : Type 0) where
  abbrev S : Type 0
  S = Slot P C

  abbrev pub holding : P → S
  holding p = Piece p

  -- as many empty slots
  abbrev pub blanks : List P → List S
  blanks ps = map (λ (p : P). let x : S = Empty in x) ps

  blanks_are : (ps : List P) → blanks ps ≡ replicate (length ps) Empty
  blanks_are [] = refl
  blanks_are (p ∷ ps) = ap (λ (l : List S). Empty ∷ l) (blanks_are ps)

  -- what a seat has when i pieces are in their slots
  abbrev pub filled_to : List P → ℕ → List (ℕ × S)
  filled_to ps i = numbered (i + 1) (blanks (drop i ps)) ++ (0, Empty) ∷ numbered 1 (map holding (take i ps))

  pub none_filled : (ps : List P) (n : ℕ) (c : List (ℕ × S)) → length ps ≡ n → c ≡ emptied n → turned c ≡ filled_to ps 0
  none_filled ps n c long e = ap turned e ∙ ap (λ (l : List S). numbered 1 l ++ (0, Empty) ∷ []) (ap (λ (k : ℕ). replicate k Empty) (sym long) ∙ sym (blanks_are ps))

  pub all_filled : (ps : List P) (n : ℕ) → length ps ≡ n → filled_to ps n ≡ (0, Empty) ∷ numbered 1 (map holding ps)
  all_filled ps n long = λ i. numbered (n + 1) (blanks (drop_all n ps (omega arith) i)) ++ (0, Empty) ∷ numbered 1 (map holding (take_all n ps (omega arith) i))

  tail_more : (ps : List P) (i : ℕ) (p : P) → i < length ps → take (suc i) ps ≡ take i ps ++ p ∷ [] →
      numbered 1 (map holding (take i ps)) ++ (i + 1, Piece p) ∷ [] ≡ numbered 1 (map holding (take (suc i) ps))
  tail_more ps i p l e =
      let xs : List S = map holding (take i ps) in
      let n : length xs ≡ i = length-map (take i ps) holding ∙ length-take-le i ps (omega arith) in
      ap (λ (z : ℕ). numbered 1 xs ++ (z, Piece p) ∷ []) (let q : i + 1 ≡ 1 + length xs = omega arith in q) ∙ numbered_more 1 xs (Piece p)
      ∙ ap (numbered 1) (sym (map-append holding (take i ps) (p ∷ [])) ∙ ap (map holding) (sym e))

  pub pushed : (ps : List P) (i : ℕ) (c : List (ℕ × S)) (v : List P) → i < length ps → c ≡ filled_to ps i → v ≡ reverse (drop i ps)
      → (p : P) × (v ≡ reverse (drop (i + 1) ps) ++ p ∷ []) × (c ≡ (i + 1, Empty) ∷ rest c) × (rest c ++ (i + 1, Piece p) ∷ [] ≡ filled_to ps (i + 1))
  pushed ps i c v l e w =
      let t = next_left ps i l in let p : P = t.0 in let up : suc i ≡ i + 1 = omega arith in
      let tail : List (ℕ × S) = (0, Empty) ∷ numbered 1 (map holding (take i ps)) in
      let c_is : c ≡ (i + 1, Empty) ∷ (numbered (suc (i + 1)) (blanks (drop (suc i) ps)) ++ tail) = e ∙ ap (λ (xs : List P). numbered (i + 1) (blanks xs) ++ tail) t.2 in
      let rest_is : rest c ≡ numbered (suc (i + 1)) (blanks (drop (suc i) ps)) ++ tail = ap rest c_is in (
        p,
        w ∙ ap reverse t.2 ∙ reverse-append (p ∷ []) (drop (suc i) ps) ∙ ap (λ (z : ℕ). reverse (drop z ps) ++ p ∷ []) up,
        c_is ∙ (λ j. (i + 1, Empty) ∷ sym rest_is j),
        ap (λ (l : List (ℕ × S)). l ++ (i + 1, Piece p) ∷ []) rest_is ∙ append_assoc (numbered (suc (i + 1)) (blanks (drop (suc i) ps))) tail ((i + 1, Piece p) ∷ [])
            ∙ ap (λ (l : List (ℕ × S)). numbered (suc (i + 1)) (blanks (drop (suc i) ps)) ++ (0, Empty) ∷ l) (tail_more ps i p l t.3)
            ∙ (λ j. numbered (suc (i + 1)) (blanks (drop (up j) ps)) ++ (0, Empty) ∷ numbered 1 (map holding (take (up j) ps)))
            ∙ ap (λ (z : ℕ). numbered z (blanks (drop (i + 1) ps)) ++ (0, Empty) ∷ numbered 1 (map holding (take (i + 1) ps))) (omega arith),
      )

  pub all_popped : (ps v : List P) (i : ℕ) → length ps ≤ i → v ≡ reverse (drop i ps) → v ≡ []
  all_popped ps v i l e = e ∙ ap reverse (drop_all i ps l)

  pub not_popped : (v xs : List P) (x : P) → v ≡ xs ++ x ∷ [] → length v ≡ 0 → ⊥
  not_popped v xs x e none = let a : length v ≡ length xs + 1 = ap length e ∙ length-append xs (x ∷ []) in omega arith

  -- a list ends in one element
  pub last_same : (xs ys : List P) (x y : P) → xs ++ x ∷ [] ≡ ys ++ y ∷ [] → (xs ≡ ys) × (x ≡ y)
  last_same xs ys x y e = let r : x ∷ reverse xs ≡ y ∷ reverse ys = sym (reverse-append xs (x ∷ [])) ∙ ap reverse e ∙ reverse-append ys (y ∷ []) in
      (sym (back xs) ∙ ap reverse (ap tail_of r) ∙ back ys, ap head_of r)
    where
      tail_of : List P → List P
      tail_of [] = []
      tail_of (z ∷ zs) = zs

      head_of : List P → P
      head_of [] = x
      head_of (z ∷ zs) = z

      back : (zs : List P) → reverse (reverse zs) ≡ zs
      back zs = reverse-reverse zs
