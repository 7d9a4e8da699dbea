-- Parts of pieces that are moved between two vectors, from the last one on.
use Rattle.std.proofs.Common.{◌≡◌, ℕ, zero, suc, ◌+◌, List, [], ◌∷◌, ◌++◌, length, map, reverse, refl, sym, ap, ◌∙◌, arith, ◌⊎◌, inl, inr, ◌-◌, Bool, cond}
use mathlib.Core.Option.{some}
use lib.ListN.{get_elem?}
use Rattle.std.proofs.lemmas.List.{append_assoc, map-append, reverse-append}
use Rattle.half_iteration.proofs.Orders.{not-equal}
use Rattle.window_workers.proofs.Somes.{some-same}
use Rattle.model_receiver.specs.Borders.{Border, known}
use Rattle.model_receiver.specs.HalfIteration.{BordersLeft, left_by, start_by, end_by}
use Rattle.window_workers.specs.declared.piece.WindowPiece.{WindowPiece}

pub reverse-pushed : {X : Type 0} (xs : List X) (x : X) → reverse (xs ++ x ∷ []) ≡ x ∷ reverse xs
reverse-pushed xs x = reverse-append xs (x ∷ [])

-- what a piece has stands before what stands in the other vector, from last to first
pub over : {P Y : Type 0} (f : P → Y) (ps : List P) (p : P) (ys : List Y) (y : Y) → f p ≡ y
    → map f (ps ++ p ∷ []) ++ reverse ys ≡ map f ps ++ reverse (ys ++ y ∷ [])
over f ps p ys y e =
    ap (λ l. l ++ reverse ys) (map-append f ps (p ∷ []))
    ∙ (append_assoc (map f ps) (f p ∷ []) (reverse ys)
    ∙ ap (λ l. map f ps ++ l) (ap (λ z. z ∷ reverse ys) e ∙ sym (reverse-pushed ys y)))

-- the borders of the first pieces of so many windows
abbrev pub AreBorderedOf : ℕ → List BordersLeft → Border → List WindowPiece → Type 0
AreBorderedOf windows left tail ps = (t : ℕ) (p : WindowPiece) → get_elem? ps t ≡ some p
    → (p.start ≡ start_by left t) × (p.end ≡ end_by windows left tail t)

pub one_more_bordered : (windows : ℕ) (left : List BordersLeft) (tail : Border) (ps : List WindowPiece) (p : WindowPiece) → AreBorderedOf windows left tail ps
    → p.start ≡ start_by left (length ps) → p.end ≡ end_by windows left tail (length ps) → AreBorderedOf windows left tail (ps ++ p ∷ [])
one_more_bordered windows left tail ps p all s e t q is =
    elim (last_or ps p t q is) [
      | inl old ↦ all t q old
      | inr new ↦ (ap (λ (x : WindowPiece). x.start) new.1 ∙ (s ∙ ap (start_by left) (sym new.0)), ap (λ (x : WindowPiece). x.end) new.1 ∙ (e ∙ ap (end_by windows left tail) (sym new.0)))
    ]
  where
    last_or : (ps : List WindowPiece) (p : WindowPiece) (t : ℕ) (q : WindowPiece) → get_elem? (ps ++ p ∷ []) t ≡ some q
        → (get_elem? ps t ≡ some q) ⊎ ((t ≡ length ps) × (q ≡ p))
    last_or [] p zero q is = inr (refl, some-same (sym is))
    last_or [] p (suc t) q is = absurd (cc)
    last_or (x ∷ ps) p zero q is = inl is
    last_or (x ∷ ps) p (suc t) q is =
        elim (last_or ps p t q is) [
          | inl old ↦ inl old
          | inr new ↦ inr (ap suc new.0, new.1)
        ]

-- the border with which the next window starts
pub start-more : (left : List BordersLeft) (t : ℕ) → start_by left (t + 1) ≡ (left_by left t).forward
start-more left t =
    ap (λ (q : Bool). cond q known (left_by left (t + 1 - 1)).forward) (not-equal (t + 1) 0 (λ e. absurd (omega (arith, e))))
    ∙ ap (λ (n : ℕ). (left_by left n).forward) (let e : t + 1 - 1 ≡ t = omega arith in e)
