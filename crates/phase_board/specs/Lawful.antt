-- The rule of the board: what holds of its two words, its slots and all seats between any two steps.
use Rattle.std.specs.Prelude.{◌≡◌, ℕ, suc, ◌+◌, ◌-◌, ◌*◌, ◌<◌, ◌≤◌, ◌^◌, List, [], ◌∷◌, length, Option, Some, None, Vec, Bool, true, false, if◌then◌else◌, ltb}
use mathlib.Core.Option.{some, none}
use mathlib.Core.Option as maybe
use lib.ListN.{get_elem?}
use Rattle.std.specs.Int.{bit_at}
use Rattle.atomic_table.specs.Table.{State}
use Rattle.std.specs.declared.alloc.Global.{Global}
use Rattle.phase_board.specs.declared.view.View.{View}
use Rattle.phase_board.specs.declared.view.Slot.{Slot}
use Rattle.phase_board.specs.declared.view.Slot.TheVariants.{Empty, Piece, Common}
use Rattle.phase_board.specs.declared.view.Activity.{Activity}
use Rattle.phase_board.specs.declared.view.Activity.TheVariants.{Idle, Working, Turning, Reset}
use Rattle.phase_board.specs.ClaimWord.{word_of, half_of, drawn_of, next_number, NotNewer}
use Rattle.phase_board.specs.Numbers.{times, total, once_below, AllBelow}
use Rattle.phase_board.specs.Slots.{HasRoom}

-- a piece waits for its draw, a seat works on it, or it is done
pub data Where : Type 0 where
  waits : Where
  out : ℕ → Where
  home : Where

-- windows are drawn, a seat turns, it has reset the mask, or the board is stopped
pub data Phase : Type 0 where
  running : Phase
  turning : ℕ → Phase
  resetting : ℕ → Phase
  stopped : Phase

module _ {J : Type 0} where
  -- the first seat's view
  abbrev pub opening_view : J → View J
  opening_view j = record {
    job = Some j;
    activity = Idle;
    drawn = [];
    done = [];
    loaded = 0;
    found = 0;
    looks = 0;
    mask = 0;
  }

  -- what a seat is left with that another took in
  abbrev pub spent_view : View J
  spent_view = record {
    job = None;
    activity = Idle;
    drawn = [];
    done = [];
    loaded = 0;
    found = 0;
    looks = 0;
    mask = 0;
  }

  -- each view that isn't spent has the job
  abbrev pub HasJob : J → View J → Option J → Type 0
  HasJob job v None = v ≡ spent_view
  HasJob job v (Some j) = j ≡ job

  abbrev pub IsAt : List (View J) → ℕ → Activity → Type 0
  IsAt views j x = (v : View J) × (get_elem? views j ≡ some v) × (v.activity ≡ x)

  -- the seat that has a window works on it, and the seat that turns has its activity
  abbrev pub InHands : List (View J) → ℕ → (ℕ → Where) → Phase → Type 0
  InHands views windows at running = (t j : ℕ) → t < windows → at t ≡ out j → IsAt views j (Working t)
  InHands views windows at (turning j) = IsAt views j Turning
  InHands views windows at (resetting j) = IsAt views j Reset
  InHands views windows at stopped = Unit {0}

-- how often a number is in all done lists: those below half * windows once, and half * windows + t once
-- where window t is done
abbrev pub done_once : ℕ → ℕ → ℕ → Phase → ℕ → ℕ
done_once windows half mask running x =
    if ltb x (half * windows) then 1 else bit_at mask (x - half * windows)
done_once windows half mask (turning j) x =
    if ltb x (half * windows) then 1 else bit_at mask (x - half * windows)
done_once windows half mask (resetting j) x = once_below x ((half + 1) * windows)
done_once windows half mask stopped x =
    if ltb x (half * windows) then 1 else bit_at mask (x - half * windows)

-- where the piece of window t is, and what it is
module _ {P C : Type 0} (ready done : ℕ → P → Type 0) (homes : List (maybe.Option (Slot P C)))
    (n mask t : ℕ) where
  abbrev pub Stands : Where → Type 0
  Stands waits = (n ≤ t) × (bit_at mask t ≡ 0)
      × ((p : P) × (get_elem? homes (suc t) ≡ some (some (Piece p))) × ready t p)
  Stands (out j) = (t < n) × (bit_at mask t ≡ 0) × (get_elem? homes (suc t) ≡ some none)
  Stands home = (t < n) × (bit_at mask t ≡ 1)
      × ((p : P) × (get_elem? homes (suc t) ≡ some (some (Piece p))) × done t p)

module _ {J P C : Type 0} (windows : J → ℕ) (ready done : J → ℕ → ℕ → P → Type 0)
    (common ended : J → ℕ → C → Type 0) (job : J) (homes : List (maybe.Option (Slot P C))) where
  abbrev pub IsHome : (C → Vec P Global → Type 0) → Type 0
  IsHome F = (c : C) × (room : Vec P Global) × (get_elem? homes 0 ≡ some (some (Common c room))) × F c room

  abbrev pub AllSlotsOut : Type 0
  AllSlotsOut = (t : ℕ) → t ≤ windows job → get_elem? homes t ≡ some none

  abbrev pub AllMarked : ℕ → Type 0
  AllMarked mask = (t : ℕ) → t < windows job → bit_at mask t ≡ 1

  abbrev pub InPhase : ℕ → ℕ → ℕ → Bool → (ℕ → Where) → Phase → Type 0
  InPhase half n mask stop at running = (stop ≡ false)
      × ((t : ℕ) → t < windows job → Stands (ready job half) (done job half) homes n mask t (at t))
      × ((t : ℕ) × (t < windows job) × (bit_at mask t ≡ 0))
      × IsHome (λ c room. common job half c × HasRoom (windows job) room)
  InPhase half n mask stop at (turning j) = (stop ≡ false) × (n ≡ windows job) × AllMarked mask × AllSlotsOut
  InPhase half n mask stop at (resetting j) = (stop ≡ false) × (n ≡ windows job) × (mask ≡ 0) × AllSlotsOut
  InPhase half n mask stop at stopped = (stop ≡ true) × (n ≡ windows job) × AllMarked mask
      × ((t : ℕ) → t < windows job → get_elem? homes (suc t) ≡ some (some Empty))
      × IsHome (λ c room. ended job half c × (room.items ≡ []))

module _ {J : Type 0} (windows : J → ℕ) (job : J) where
  -- what the seat j knows by its activity
  abbrev pub Knows : ℕ → (ℕ → Where) → Phase → ℕ → View J → Activity → Type 0
  Knows half at ph j v Idle = Unit {0}
  Knows half at ph j v (Working t) = (ph ≡ running) × (at t ≡ out j) × (half_of v.loaded ≡ half)
      × (t < windows job)
  Knows half at ph j v Turning = (ph ≡ turning j) × (half_of v.loaded ≡ half)
  Knows half at ph j v Reset = (ph ≡ resetting j) × (half_of v.loaded ≡ half)

  pub record Seated (claim half : ℕ) (at : ℕ → Where) (ph : Phase) (j : ℕ) (v : View J) : Type 0 where
    pub found_is : NotNewer v.found claim
    pub found_drawn : drawn_of v.found ≤ windows job
    pub loaded_is : NotNewer v.loaded v.found
    pub loaded_drawn : drawn_of v.loaded ≤ windows job
    pub below : AllBelow (next_number (windows job) v.found) v.drawn
    pub job_is : HasJob job v v.job
    pub knows : Knows half at ph j v v.activity

module _ {J P C : Type 0} (windows : J → ℕ) (ready done : J → ℕ → ℕ → P → Type 0)
    (common ended : J → ℕ → C → Type 0) (job : J) (s : State (Slot P C) (View J)) where
  pub record Lawful : Type 0 where
    pub half : ℕ
    pub n : ℕ
    pub stop : Bool
    pub mask : ℕ
    pub at : ℕ → Where
    pub phase : Phase
    pub words : s.words ≡ (word_of stop half n) ∷ mask ∷ []
    pub mask_small : mask < 2 ^ windows job
    pub small : half ≤ 1000000
    pub most : n ≤ windows job
    pub size : windows job ≤ 64
    pub slots : length s.homes ≡ windows job + 1
    pub draws : (x : ℕ) → total (λ v. times x v.drawn) s.views ≡ once_below x (half * windows job + n)
    pub dones : (x : ℕ) → total (λ v. times x v.done) s.views ≡ done_once (windows job) half mask phase x
    pub in_phase : InPhase windows ready done common ended job s.homes half n mask stop at phase
    pub in_hands : InHands s.views (windows job) at phase
    pub each_seat : (j : ℕ) (v : View J) → get_elem? s.views j ≡ some v
        → Seated windows job (word_of stop half n) half at phase j v
