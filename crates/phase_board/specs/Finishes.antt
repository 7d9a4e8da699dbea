-- What a finish answers, and what the seat that turns is owed.
use Rattle.std.specs.Prelude.{◌≡◌, ℕ}
use Rattle.phase_board.specs.declared.board.Board.{Board}
use Rattle.phase_board.specs.declared.seats.Working.{Working}
use Rattle.phase_board.specs.declared.seats.Finish.{Finish}
use Rattle.phase_board.specs.declared.seats.Finish.TheVariants.{Given, Last}
use Rattle.phase_board.specs.declared.view.Activity.TheVariants.{Turning as Turns}
use Rattle.phase_board.specs.declared.view.View.{View}
use Rattle.phase_board.specs.declared.piece.Piece.{Ghosts}
use Rattle.phase_board.specs.Slots.{AllPieces}
use Rattle.phase_board.specs.Steps.{after_finish, HasOthers, LacksAnother}
use Rattle.phase_board.specs.Seats.{idle_view, working_view, turning_view, IsIdleOf, IsTurningOf}

module _ {P C J : Type 0} {G : Ghosts P C J} where
  abbrev pub IsFinishOf : Board P C J → Finish P C J G → Type 0
  IsFinishOf b (Given s) = IsIdleOf b s
  IsFinishOf b (Last s) = IsTurningOf b s

  -- the seat's view after its window was marked in the mask
  abbrev pub finished_view : J → Working P C J G → ℕ → View J
  finished_view job w mask = after_finish (G.windows job) w.window mask (working_view w)

  -- the mask that the finish found is the one in the seat's view
  abbrev pub FinishIs : J → Working P C J G → Finish P C J G → Type 0
  FinishIs job w (Given s) = (idle_view s ≡ finished_view job w (idle_view s).mask)
      × LacksAnother (G.windows job) w.window (idle_view s).mask
  FinishIs job w (Last s) = (turning_view s
      ≡ record (finished_view job w (turning_view s).mask) { activity = Turns })
      × HasOthers (G.windows job) w.window (turning_view s).mask
      × (s.half ≡ w.half) × AllPieces (G.windows job) (G.done job s.half) s.pieces.items
      × G.common job s.half s.common
