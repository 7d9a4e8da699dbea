-- The slots of a board: the common value's is the first, and that of window t the one at t + 1.
use Rattle.std.specs.Prelude.{◌≡◌, ℕ, suc, ◌+◌, ◌≤◌, List, [], ◌∷◌, ◌++◌, length, take, drop, replicate, map, Vec, vec_capacity}
use mathlib.Core.Option.{some}
use lib.ListN.{get_elem?}
use Rattle.std.specs.declared.alloc.Global.{Global}
use Rattle.phase_board.specs.declared.view.Slot.{Slot}
use Rattle.phase_board.specs.declared.view.Slot.TheVariants.{Empty, Piece, Common}

-- the values xs in the slots from k on
abbrev pub numbered : {S : Type 0} → ℕ → List S → List (ℕ × S)
numbered k [] = []
numbered k (x ∷ xs) = (k, x) ∷ numbered (suc k) xs

-- a vector with room for n items, and none in it
abbrev pub HasRoom : {P : Type 0} → ℕ → Vec P Global → Type 0
HasRoom n v = (v.items ≡ []) × (n ≤ vec_capacity v)

-- a list of pieces, one for each window, of which each holds F of its window
abbrev pub AllPieces : {P : Type 0} → ℕ → (ℕ → P → Type 0) → List P → Type 0
AllPieces {P} windows F ps = (length ps ≡ windows) × ((t : ℕ) (p : P) → get_elem? ps t ≡ some p → F t p)

-- a seat has all slots, empty
abbrev pub emptied : {P C : Type 0} → ℕ → List (ℕ × Slot P C)
emptied windows = (0, Empty) ∷ numbered 1 (replicate windows Empty)

module _ {P C : Type 0} (windows : ℕ) where
  -- a seat has all slots: a common value, and pieces
  abbrev pub AllOut : (C → Type 0) → (ℕ → P → Type 0) → List (ℕ × Slot P C) → Type 0
  AllOut F G c = (x : C) × (room : Vec P Global) × (ps : List P)
      × (c ≡ (0, Common x room) ∷ numbered 1 (map Piece ps)) × HasRoom windows room × F x
      × AllPieces windows G ps

  -- the first i of the pieces are in the vector, and the others in the slots that a seat has
  abbrev pub TakingOut : (ℕ → P → Type 0) → ℕ → List (ℕ × Slot P C) → Vec P Global → Type 0
  TakingOut G i c v = (ps : List P) × AllPieces windows G ps
      × (c ≡ numbered (i + 1) (map Piece (drop i ps)) ++ (0, Empty) ∷ numbered 1 (replicate i Empty))
      × (v.items ≡ take i ps) × (windows ≤ vec_capacity v)
