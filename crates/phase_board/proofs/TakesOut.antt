-- The pieces come out of the slots that a seat has, one after another.
use Rattle.std.proofs.Common.{◌≡◌, ℕ, zero, suc, ◌+◌, ◌<◌, List, [], ◌∷◌, ◌++◌, map, length, take, drop, replicate, sym, refl, ap, ◌∙◌, arith, append_assoc}
use mathlib.Core.Option.{some}
use lib.ListN.{get_elem?}
use Rattle.atomic_table.specs.Table.{rest}
use Rattle.phase_board.specs.declared.view.Slot.{Slot}
use Rattle.phase_board.specs.declared.view.Slot.TheVariants.{Empty, Piece, Common}
use Rattle.phase_board.specs.Slots.{numbered}

pub next_left : {P : Type 0} (ps : List P) (i : ℕ) → i < length ps → (p : P) × (get_elem? ps i ≡ some p) × (drop i ps ≡ p ∷ drop (suc i) ps) × (take (suc i) ps ≡ take i ps ++ p ∷ [])
next_left [] i l = absurd (omega arith)
next_left (x ∷ ps) zero l = (x, refl, refl, refl)
next_left (x ∷ ps) (suc i) l = let t = next_left ps i (omega arith) in (t.0, t.1, t.2, ap (λ (l : List _). x ∷ l) t.3)

numbered_snoc : {S : Type 0} (k n : ℕ) (e : S) → numbered k (replicate n e) ++ (k + n, e) ∷ [] ≡ numbered k (replicate (suc n) e)
numbered_snoc k zero e = ap (λ (z : ℕ). (z, e) ∷ []) (omega arith)
numbered_snoc k (suc n) e = ap (λ (l : List (ℕ × _)). (k, e) ∷ l) (ap (λ (z : ℕ). numbered (suc k) (replicate n e) ++ (z, e) ∷ []) (omega arith) ∙ numbered_snoc (suc k) n e)

pub same_head : {S : Type 0} (k l l' : List (ℕ × S)) (a : ℕ) (x y : S) → k ≡ (a, x) ∷ l → k ≡ (a, y) ∷ l' → x ≡ y
same_head {S = S} k l l' a x y e f = ap hd (sym e ∙ f)
  where
    hd : List (ℕ × S) → S
    hd [] = x
    hd (z ∷ zs) = z.1

pub piece_same : {P C : Type 0} (x y : P) → (let s : Slot P C = Piece x in s) ≡ Piece y → x ≡ y
piece_same {P = P} {C = C} x y e = ap of_slot e
  where
    of_slot : Slot P C → P
    of_slot Empty = x
    of_slot (Piece z) = z
    of_slot (Common c r) = x

module _ (P C : Type 0) where
  abbrev S : Type 0
  S = Slot P C

  abbrev tail : ℕ → List (ℕ × S)
  tail i = (0, Empty) ∷ numbered 1 (replicate i Empty)

  tail_more : (i : ℕ) → tail i ++ (i + 1, Empty) ∷ [] ≡ tail (i + 1)
  tail_more i = ap (λ (l : List (ℕ × S)). (0, Empty) ∷ l) (ap (λ (z : ℕ). numbered 1 (replicate i Empty) ++ (z, Empty) ∷ []) (omega arith) ∙ numbered_snoc 1 i Empty
      ∙ (let e : suc i ≡ i + 1 = omega arith in ap (λ (z : ℕ). numbered 1 (replicate z Empty)) e))

  pub pulled : (ps : List P) (i : ℕ) (c : List (ℕ × S)) → i < length ps → c ≡ numbered (i + 1) (map Piece (drop i ps)) ++ tail i
      → (p : P) × (get_elem? ps i ≡ some p) × (c ≡ (i + 1, Piece p) ∷ rest c) × (rest c ++ (i + 1, Empty) ∷ [] ≡ numbered (i + 1 + 1) (map Piece (drop (i + 1) ps)) ++ tail (i + 1))
      × (take (i + 1) ps ≡ take i ps ++ p ∷ [])
  pulled ps i c l e =
      let t = next_left ps i l in let up : suc i ≡ i + 1 = omega arith in let up2 : suc (i + 1) ≡ i + 1 + 1 = omega arith in
      let c_is : c ≡ (i + 1, Piece t.0) ∷ (numbered (suc (i + 1)) (map Piece (drop (suc i) ps)) ++ tail i) = e ∙ ap (λ (xs : List P). numbered (i + 1) (map Piece xs) ++ tail i) t.2 in
      let rest_is : rest c ≡ numbered (suc (i + 1)) (map Piece (drop (suc i) ps)) ++ tail i = ap rest c_is in (
        t.0,
        t.1,
        c_is ∙ (λ j. (i + 1, Piece t.0) ∷ sym rest_is j),
        ap (λ (l : List (ℕ × S)). l ++ (i + 1, Empty) ∷ []) rest_is ∙ append_assoc (numbered (suc (i + 1)) (map Piece (drop (suc i) ps))) (tail i) ((i + 1, Empty) ∷ [])
            ∙ ap (λ (l : List (ℕ × S)). numbered (suc (i + 1)) (map Piece (drop (suc i) ps)) ++ l) (tail_more i)
            ∙ (λ j. numbered (up2 j) (map Piece (drop (up j) ps)) ++ tail (i + 1)),
        (λ j. take (sym up j) ps) ∙ t.3,
      )
