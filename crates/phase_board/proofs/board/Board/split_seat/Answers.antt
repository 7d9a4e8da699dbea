use Rattle.std.proofs.Common.{rules}
use Rattle.phase_board.proofs.Cuts.{splits}
use Rattle.phase_board.proofs.board.Board.split_seat.Goals as goal

pub split_seat-other-requires : goal.split_seat-other-requires
split_seat-other-requires g c = (c.requires.0, search rules, splits _ _ _ _ _ _ _ _ c.requires.1)
