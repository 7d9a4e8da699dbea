use Rattle.std.proofs.Common.{ℕ, sym, subst}
use Rattle.phase_board.specs.Boards.{board_job}
use Rattle.cell_shares.specs.Shares.{share_number}
use Rattle.window_workers.specs.Pieces.{job_of_piece, IsReady, IsDone}
use Rattle.window_workers.proofs.OwnJobs.{own-ready, own-window, done-of_own}
use Rattle.window_workers.proofs.serving.work.Goals as goal

pub run_piece-requires-clause-window : goal.run_piece-requires-clause-window
run_piece-requires-clause-window g c =
    own-window (board_job job_of_piece c.args.board.now) c.args.seat.half c.args.seat.window c.args.seat.piece c.requires.ready c.requires.window

pub run_piece-requires-clause-ready : goal.run_piece-requires-clause-ready
run_piece-requires-clause-ready g c =
    let p = c.args.seat.piece in
    subst (λ (n : ℕ). IsReady (job_of_piece p) n (share_number p.share) p) (sym c.half-half.ensures)
    (own-ready (board_job job_of_piece c.args.board.now) c.args.seat.half c.args.seat.window p c.requires.ready)

pub finish-requires-clause-done : goal.finish-requires-clause-done
finish-requires-clause-done g c =
    let p = c.args.seat.piece in
    done-of_own (board_job job_of_piece c.args.board.now) c.args.seat.half c.args.seat.window p c.run_piece.result c.requires.ready
    (subst (λ (n : ℕ). IsDone (job_of_piece p) n (share_number p.share) c.run_piece.result) c.half-half.ensures c.run_piece.ensures)
