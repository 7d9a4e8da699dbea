use Rattle.std.proofs.Common.{rules}
use Rattle.phase_board.proofs.Cuts.{joins}
use Rattle.phase_board.proofs.board.Board.join_seat.Goals as goal

pub join_seat-requires : goal.join_seat-requires
join_seat-requires g c =
    (c.requires.into.0, c.requires.other.0, c.args.other.rests.0, search rules, joins _ _ _ _ _ _ _ _ _ _ c.requires.into.1 c.args.into.rests.1 c.args.other.rests.1)
