-- What a closed board shows.
use Rattle.std.specs.Prelude.{◌≡◌, ℕ, ◌+◌, ◌*◌, Vec}
use mathlib.Core.Option.{some}
use lib.ListN.{get_elem?}
use Rattle.std.specs.declared.alloc.Global.{Global}
use Rattle.atomic_table.specs.Table.{State}
use Rattle.phase_board.specs.declared.closed.Closed.{Closed}
use Rattle.phase_board.specs.declared.piece.Piece.{Ghosts}
use Rattle.phase_board.specs.declared.seats.Idle.{Idle}
use Rattle.phase_board.specs.declared.view.View.{View}
use Rattle.phase_board.specs.declared.view.Slot.{Slot}
use Rattle.phase_board.specs.declared.view.Slot.TheVariants.{Common}
use Rattle.phase_board.specs.Lawful.{Lawful, stopped}
use Rattle.phase_board.specs.Numbers.{times, total, once_below}
use Rattle.phase_board.specs.Seats.{idle_view}

module _ {P C J : Type 0} where
  -- `job` says what the job of a piece is
  abbrev pub closed_job : (P → J) → Closed P C J → J
  closed_job job c = job c.about.value

-- a lawful state of a board of the job, stopped at the half h: the seat j has the view v, the common value is
-- c, and all seats' lists have each window of the halves 0 to h once, and no other
module _ {J P C : Type 0} (windows : J → ℕ) (ready done : J → ℕ → ℕ → P → Type 0)
    (common ended : J → ℕ → C → Type 0) (job : J) (h j : ℕ) (v : View J) (c : C)
    (s : State (Slot P C) (View J)) where
  pub record StoppedState : Type 0 where
    pub lawful : Lawful windows ready done common ended job s
    pub over : lawful.phase ≡ stopped
    pub half : lawful.half ≡ h
    pub seat : get_elem? s.views j ≡ some v
    pub value : (room : Vec P Global) × (get_elem? s.homes 0 ≡ some (some (Common c room)))
    pub draws : (x : ℕ) → total (λ u. times x u.drawn) s.views ≡ once_below x ((h + 1) * windows job)
    pub dones : (x : ℕ) → total (λ u. times x u.done) s.views ≡ once_below x ((h + 1) * windows job)

module _ {P C J : Type 0} {G : Ghosts P C J} where
  -- in a state that was stopped at this half the seat is at its own place, beside the common value
  abbrev pub AllDrawnAndDone : J → ℕ → Idle P C J G → C → Type 0
  AllDrawnAndDone job half seat c = (s : State (Slot P C) (View J))
      × StoppedState G.windows G.ready G.done G.common G.ended job half seat.seat.id (idle_view seat) c s
