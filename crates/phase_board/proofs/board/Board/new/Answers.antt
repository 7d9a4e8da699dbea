use Rattle.std.proofs.Common.{sym, ◌∙◌}
use Rattle.phase_board.specs.Openings.{Opens}
use Rattle.phase_board.proofs.Opens.{opens, of_first}
use Rattle.phase_board.proofs.Laid.{same_laid}
use Rattle.phase_board.proofs.board.Board.new.Goals as goal

pub new-requires : goal.new-requires
new-requires g c =
    let laid = c.in_ok-slots.ensures.laid in
    opens g.P.Piece.job g.P.Piece.windows g.P.Piece.ready g.P.Piece.done g.P.Piece.common g.P.Piece.ended (g.P.Piece.job c.of-about.result.value) c.args.pieces.items c.args.common laid.0
    c.in_ok-slots.slots.items laid.1 laid.2
    (of_first g.P.Piece.job (λ j. Opens g.P.Piece.job g.P.Piece.windows g.P.Piece.ready g.P.Piece.common j c.args.pieces.items c.args.common) c.args.pieces.items c.index.result.now
    c.of-about.result.value c.index.ensures c.of-about.ensures c.requires)

pub unlay-requires : goal.unlay-requires
unlay-requires g c = let laid = c.in_ok-slots.ensures.laid in (c.args.common, laid.0, c.args.pieces.items, c.in-Err.ensures.err ∙ laid.1, laid.2)

pub returns-in-Err-clause-refused : goal.returns-in-Err-clause-refused
returns-in-Err-clause-refused g c =
    let laid = c.in_ok-slots.ensures.laid in let back = c.unlay.ensures in
    same_laid _ _ c.unlay.result.common c.args.common back.0 laid.0 c.unlay.result.pieces.items c.args.pieces.items (sym back.1 ∙ c.in-Err.ensures.err ∙ laid.1)
