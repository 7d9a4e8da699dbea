-- Slots that are all at home, and slots that are all out.
use Rattle.std.proofs.Common.{◌≡◌, ℕ, zero, suc, ◌+◌, ◌<◌, List, [], ◌∷◌, map, length, subst, sym, refl, arith}
use Rattle.std.specs.Prelude.{Vec}
use Rattle.std.specs.declared.alloc.Global.{Global}
use mathlib.Core.Option.{some, none, some-injective, some-ne-none}
use mathlib.Core.Option as maybe
use lib.ListN.{get_elem?}
use Rattle.phase_board.specs.declared.view.Slot.{Slot}
use Rattle.phase_board.specs.declared.view.Slot.TheVariants.{Piece, Common}
use Rattle.phase_board.specs.Slots.{HasRoom, AllPieces}
use Rattle.phase_board.proofs.Acts.{nones}

module _ {P C : Type 0} where
  -- the slots of pieces, all at home
  pieces_home : (G : ℕ → P → Type 0) (hs : List (maybe.Option (Slot P C))) → ((t : ℕ) → t < length hs → (q : P) × (get_elem? hs t ≡ some (some (Piece q))) × G t q) →
      (ps : List P) × (hs ≡ map some (map Piece ps)) × AllPieces (length hs) G ps
  pieces_home G [] each = ([], refl, (refl, λ t x e. absurd (some-ne-none x (sym e))))
  pieces_home G (h ∷ hs) each =
      let first = each zero (omega arith) in
      let others = pieces_home (λ t x. G (suc t) x) hs (λ t l. each (suc t) (omega arith)) in
      (first.0 ∷ others.0, (λ i. some-injective h (some (Piece first.0)) first.1 i ∷ others.1 i), ((let l = others.2.0 in omega arith), go first.0 first.2 others.0 others.2.1))
    where
      go : (y : P) → G zero y → (ys : List P) → ((t : ℕ) (x : P) → get_elem? ys t ≡ some x → G (suc t) x) → (t : ℕ) (x : P) → get_elem? (y ∷ ys) t ≡ some x → G t x
      go y fy ys fs zero x e = subst (G zero) (some-injective y x e) fy
      go y fy ys fs (suc t) x e = fs t x e

  -- all slots at home: the common value's, and one for each piece
  pub all_home : (F : C → Type 0) (G : ℕ → P → Type 0) (m : ℕ) (hs : List (maybe.Option (Slot P C))) → length hs ≡ m + 1 →
      ((c : C) × (room : Vec P Global) × (get_elem? hs 0 ≡ some (some (Common c room))) × F c × HasRoom m room)
      → ((t : ℕ) → t < m → (q : P) × (get_elem? hs (suc t) ≡ some (some (Piece q))) × G t q)
      → (c : C) × (room : Vec P Global) × (ps : List P) × (hs ≡ map some (Common c room ∷ map Piece ps)) × HasRoom m room × F c × AllPieces m G ps
  all_home F G m [] long shared each = absurd (omega arith)
  all_home F G m (h ∷ hs) long shared each =
      let n : length hs ≡ m = omega arith in
      let rest = pieces_home G hs (λ t l. each t (omega arith)) in
      (shared.0, shared.1, rest.0, (λ i. some-injective h (some (Common shared.0 shared.1)) shared.2 i ∷ rest.1 i), shared.4, shared.3, subst (λ (k : ℕ). AllPieces k G rest.0) n rest.2)

pub nones_at : {S : Type 0} (xs : List S) (t : ℕ) → t < length xs → get_elem? (nones xs) t ≡ some none
nones_at [] t l = absurd (omega arith)
nones_at (x ∷ xs) zero l = refl
nones_at (x ∷ xs) (suc t) l = nones_at xs t (omega arith)
