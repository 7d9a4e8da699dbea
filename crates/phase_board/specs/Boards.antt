-- Which board it is, and its job.
use Rattle.atomic_table.specs.Seated.{TableId}
use Rattle.phase_board.specs.declared.board.Board.{Board}

module _ {P C J : Type 0} where
  abbrev pub board_id : Board P C J → TableId
  board_id b = b.table.shared.table_id

  -- `job` says what the job of a piece is
  abbrev pub board_job : (P → J) → Board P C J → J
  board_job job b = job b.table.shared.key.value
