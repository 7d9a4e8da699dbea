-- What a seat knows, and whether it is of a board.
use Rattle.std.specs.Prelude.{◌≡◌, ℕ, Some}
use Rattle.phase_board.specs.declared.board.Board.{Board}
use Rattle.phase_board.specs.declared.seats.Idle.{Idle}
use Rattle.phase_board.specs.declared.seats.Working.{Working}
use Rattle.phase_board.specs.declared.seats.Turning.{Turning}
use Rattle.phase_board.specs.declared.view.View.{View}
use Rattle.phase_board.specs.declared.view.Activity.TheVariants.{Idle as AtRest}
use Rattle.phase_board.specs.declared.piece.Piece.{Ghosts}
use Rattle.phase_board.specs.Boards.{board_id, board_job}

module _ {P C J : Type 0} {G : Ghosts P C J} where
  abbrev pub idle_view : Idle P C J G → View J
  idle_view s = s.seat.me.0

  abbrev pub working_view : Working P C J G → View J
  working_view s = s.seat.me.0

  abbrev pub turning_view : Turning P C J G → View J
  turning_view s = s.seat.me.0

  -- the turning seat's view after a turn or a stop, by the claim word that it left
  abbrev pub settled_view : Turning P C J G → ℕ → View J
  settled_view s word = record (turning_view s) { activity = AtRest; found = word }

  -- the seat is of the board, and has its job
  abbrev pub IsIdleOf : Board P C J → Idle P C J G → Type 0
  IsIdleOf b s = (s.seat.table_id ≡ board_id b) × ((idle_view s).job ≡ Some (board_job G.job b))

  abbrev pub IsWorkingOf : Board P C J → Working P C J G → Type 0
  IsWorkingOf b s = (s.seat.table_id ≡ board_id b) × ((working_view s).job ≡ Some (board_job G.job b))

  abbrev pub IsTurningOf : Board P C J → Turning P C J G → Type 0
  IsTurningOf b s = (s.seat.table_id ≡ board_id b) × ((turning_view s).job ≡ Some (board_job G.job b))
