-- A window is marked, and its piece comes home: the others stand where they stood.
use Rattle.std.proofs.Common.{◌≡◌, ◌≢◌, ℕ, suc, ◌<◌, List, set, sym, refl, ap, ◌∙◌, arith}
use mathlib.Core.Option.{some, none}
use mathlib.Core.Option as maybe
use lib.ListN.{get_elem?}
use Rattle.std.specs.Int.{bit_at}
use Rattle.atomic_table.proofs.Lists.{set_else}
use Rattle.phase_board.specs.declared.view.View.{View}
use Rattle.phase_board.specs.declared.view.Slot.{Slot}
use Rattle.phase_board.specs.declared.view.Slot.TheVariants.{Piece}
use Rattle.phase_board.specs.declared.view.Activity.{Activity}
use Rattle.phase_board.specs.declared.view.Activity.TheVariants.{Idle, Working, Turning, Reset}
use Rattle.phase_board.specs.Lawful.{Where, waits, out, home, Phase, running, turning, resetting, Stands, Knows}
use Rattle.phase_board.proofs.Moves.{moved_to, moved_case, up_ne}

module _ {P C : Type 0} (ready done : ℕ → P → Type 0) (homes : List (maybe.Option (Slot P C))) (n mask mask' t : ℕ) (p : P) (kept : (i : ℕ) → i ≢ t → bit_at mask' i ≡ bit_at mask i) where
  pub stands : (x : Where) (i : ℕ) → i ≢ t → Stands ready done homes n mask i x → Stands ready done (set homes (suc t) (some (Piece p))) n mask' i x
  stands waits i ne q = (q.0, kept i ne ∙ q.1, (q.2.0, set_else homes (suc t) (suc i) (some (Piece p)) (up_ne i t ne) ∙ q.2.1, q.2.2))
  stands (out j) i ne q = (q.0, kept i ne ∙ q.1, set_else homes (suc t) (suc i) (some (Piece p)) (up_ne i t ne) ∙ q.2)
  stands home i ne q = (q.0, kept i ne ∙ q.1, (q.2.0, set_else homes (suc t) (suc i) (some (Piece p)) (up_ne i t ne) ∙ q.2.1, q.2.2))

  -- another marked window is done
  pub is_home : (x : Where) (i : ℕ) → i ≢ t → bit_at mask' i ≡ 1 → Stands ready done homes n mask i x → (i < n) × ((q : P) × (get_elem? homes (suc i) ≡ some (some (Piece q))) × done i q)
  is_home waits i ne b q = let f = kept i ne in let g = q.1 in absurd (omega arith)
  is_home (out j) i ne b q = let f = kept i ne in let g = q.1 in absurd (omega arith)
  is_home home i ne b q = (q.0, q.2)

module _ {J : Type 0} (windows : J → ℕ) (job : J) (half id t : ℕ) (at : ℕ → Where) (ph : Phase) (runs : ph ≡ running) (mine : at t ≡ out id) where
  apart : (j i : ℕ) → j ≢ id → at i ≡ out j → i ≢ t
  apart j i ne is e = let f : out id ≡ out j = sym mine ∙ ap at (sym e) ∙ is in ne (cc)

  -- the others work on
  pub work_on : (j : ℕ) (u : View J) (x : Activity) → j ≢ id → Knows windows job half at ph j u x → Knows windows job half (moved_to at t home) running j u x
  work_on j u Idle ne q = tt
  work_on j u (Working i) ne q = (refl, moved_case at t home (λ y. y ≡ out j) i (λ e. absurd (apart j i ne q.1 e)) (λ _. q.1), q.2, q.3)
  work_on j u Turning ne q = let f : running ≡ turning j = sym runs ∙ q.0 in cc
  work_on j u Reset ne q = let f : running ≡ resetting j = sym runs ∙ q.0 in cc

  -- where no other window is out, no other works
  pub none_works : ((j i : ℕ) → i < windows job → i ≢ t → at i ≡ out j → ⊥) → (j : ℕ) (u : View J) (x : Activity) → j ≢ id → Knows windows job half at ph j u x →
      Knows windows job half at (turning id) j u x
  none_works none_out j u Idle ne q = tt
  none_works none_out j u (Working i) ne q = absurd (none_out j i q.3 (apart j i ne q.1) q.1)
  none_works none_out j u Turning ne q = let f : running ≡ turning j = sym runs ∙ q.0 in cc
  none_works none_out j u Reset ne q = let f : running ≡ resetting j = sym runs ∙ q.0 in cc
