-- Pieces go over from one vector to another, last first.
use Rattle.std.proofs.Common.{◌≡◌, suc, List, [], ◌∷◌, ◌++◌, map, length, reverse, sym, refl, ap, ◌∙◌, arith, append_assoc}
use Rattle.std.proofs.lemmas.List.{reverse-append, reverse-reverse, map-append}
use Rattle.std.specs.Prelude.{Vec}
use Rattle.std.specs.declared.alloc.Global.{Global}
use Rattle.phase_board.specs.declared.view.Slot.{Slot}
use Rattle.phase_board.specs.declared.view.Slot.TheVariants.{Empty, Piece, Common}

module _ (P C : Type 0) where
  abbrev S : Type 0
  S = Slot P C

  abbrev pub holding : List P → List S
  holding ps = map (λ (p : P). let x : S = Piece p in x) ps

  -- those that are pieces still, and those that are slots already, which lie the other way round
  abbrev pub all_of : List P → List S → List S
  all_of ps ss = holding ps ++ reverse ss

  pub over : (ps : List P) (p : P) (ss : List S) → all_of (ps ++ p ∷ []) ss ≡ all_of ps (ss ++ Piece p ∷ [])
  over ps p ss = ap (λ (l : List S). l ++ reverse ss) (map-append _ ps (p ∷ [])) ∙ append_assoc (holding ps) (Piece p ∷ []) (reverse ss)
      ∙ ap (λ (l : List S). holding ps ++ l) (sym (reverse-append ss (Piece p ∷ [])))

  piece_at : (ns : List P) (ys : List S) (x : S) (ps : List P) → holding ns ++ x ∷ ys ≡ holding ps → (p : P) × (x ≡ Piece p)
  piece_at [] ys x [] e = absurd (let f : suc (length ys) ≡ 0 = ap length e in omega arith)
  piece_at [] ys x (p ∷ ps) e = (p, cc)
  piece_at (n ∷ ns) ys x [] e = absurd (let f : suc (length (holding ns ++ x ∷ ys)) ≡ 0 = ap length e in omega arith)
  piece_at (n ∷ ns) ys x (p ∷ ps) e = piece_at ns ys x ps (cc)

  -- a slot among them has a piece
  pub is_piece : (ns : List P) (ss : List S) (x : S) (ps : List P) → all_of ns (ss ++ x ∷ []) ≡ holding ps → (p : P) × (x ≡ Piece p)
  is_piece ns ss x ps e = piece_at ns (reverse ss) x ps (ap (λ (l : List S). holding ns ++ l) (sym (reverse-append ss (x ∷ []))) ∙ e)

  pub not_empty : (x : S) (p : P) → x ≡ Empty → x ≡ Piece p → ⊥
  not_empty x p a b = let e : (let y : S = Empty in y) ≡ Piece p = sym a ∙ b in cc

  pub not_common : (x : S) (c : C) (room : Vec P Global) (p : P) → x ≡ Common c room → x ≡ Piece p → ⊥
  not_common x c room p a b = let e : (let y : S = Common c room in y) ≡ Piece p = sym a ∙ b in cc

  pub same_pieces : (xs ys : List P) → holding xs ≡ holding ys → xs ≡ ys
  same_pieces [] [] e = refl
  same_pieces [] (y ∷ ys) e = absurd (let f : 0 ≡ suc (length (holding ys)) = ap length e in omega arith)
  same_pieces (x ∷ xs) [] e = absurd (let f : suc (length (holding xs)) ≡ 0 = ap length e in omega arith)
  same_pieces (x ∷ xs) (y ∷ ys) e = let t = same_pieces xs ys (cc) in let h : x ≡ y = cc in cc

  pub same_laid : (c d : C) (room space : Vec P Global) (ps qs : List P) → (let x : S = Common c room in x) ∷ holding ps ≡ Common d space ∷ holding qs → (ps ≡ qs) × (c ≡ d)
  same_laid c d room space ps qs e = (same_pieces ps qs (cc), cc)

  -- what lay first comes out last
  pub taken_last : (y w : S) (zs xs : List S) → reverse (y ∷ zs) ≡ xs ++ w ∷ [] → y ∷ zs ≡ w ∷ reverse xs
  taken_last y w zs xs e = sym (reverse-reverse (y ∷ zs)) ∙ ap reverse e ∙ reverse-append xs (w ∷ [])

pub none_of : {A : Type 0} (xs : List A) → length xs ≡ 0 → xs ≡ []
none_of [] e = refl
none_of (x ∷ xs) e = absurd (omega arith)
