use Rattle.std.proofs.Common.{◌≡◌, ℕ, suc, ◌+◌, sym, ap, ◌∙◌, subst, arith}
use Rattle.phase_board.specs.Boards.{board_job}
use Rattle.window_workers.specs.declared.job.DecodingJob.{DecodingJob}
use Rattle.window_workers.specs.declared.common.Stage.TheVariants.{Decided}
use Rattle.window_workers.specs.Jobs.{IsJob}
use Rattle.window_workers.specs.Pieces.{job_of_piece}
use Rattle.window_workers.specs.Commons.{IsProgress, HasRooms, IsRunning, IsDecided}
use Rattle.window_workers.specs.HalfEnds.{AreAllDone, AreAllReady, IsAfter}
use Rattle.window_workers.proofs.EndedHalves.{first-done, first-job}
use Rattle.window_workers.proofs.half_end.half_ended.Goals as goal

pub after_half-requires-clause-job : goal.after_half-requires-clause-job
after_half-requires-clause-job c =
    let job = board_job job_of_piece c.args.board.now in let ps = c.args.seat.pieces.items in
    let own = ap job_of_piece c.of-about.ensures ∙ first-job job c.args.seat.half ps c.index.result.now c.requires.windows c.requires.pieces c.index.ensures in
    subst IsJob (sym own) (first-done job c.args.seat.half ps c.index.result.now c.requires.windows c.requires.pieces c.index.ensures).held.lawful

pub after_half-requires-clause-pieces : goal.after_half-requires-clause-pieces
after_half-requires-clause-pieces c =
    let job = board_job job_of_piece c.args.board.now in let ps = c.args.seat.pieces.items in
    let own = ap job_of_piece c.of-about.ensures ∙ first-job job c.args.seat.half ps c.index.result.now c.requires.windows c.requires.pieces c.index.ensures in
    subst (λ (j : DecodingJob). AreAllDone j c.half-half.result ps) (sym own) (subst (λ (n : ℕ). AreAllDone job n ps) (sym c.half-half.ensures) c.requires.pieces)

pub after_half-requires-clause-progress : goal.after_half-requires-clause-progress
after_half-requires-clause-progress c =
    let job = board_job job_of_piece c.args.board.now in let ps = c.args.seat.pieces.items in let p = c.in-Running.progress in
    let own = ap job_of_piece c.of-about.ensures ∙ first-job job c.args.seat.half ps c.index.result.now c.requires.windows c.requires.pieces c.index.ensures in
    let common = subst (IsRunning job c.args.seat.half) c.in-Running.is c.requires.common in
    subst (λ (j : DecodingJob). IsProgress j c.half-half.result c.half-half.result p) (sym own)
    (subst (λ (n : ℕ). IsProgress job n n p) (sym c.half-half.ensures) common.0)

pub after_half-requires-clause-rooms : goal.after_half-requires-clause-rooms
after_half-requires-clause-rooms c =
    let job = board_job job_of_piece c.args.board.now in let ps = c.args.seat.pieces.items in
    let own = ap job_of_piece c.of-about.ensures ∙ first-job job c.args.seat.half ps c.index.result.now c.requires.windows c.requires.pieces c.index.ensures in
    let common = subst (IsRunning job c.args.seat.half) c.in-Running.is c.requires.common in
    subst (λ (j : DecodingJob). HasRooms j.shape.windows c.in-Running.rooms) (sym own) common.1

pub turn-requires-clause-pieces : goal.turn-requires-clause-pieces
turn-requires-clause-pieces c =
    let job = board_job job_of_piece c.args.board.now in let ps = c.args.seat.pieces.items in let h : ℕ = c.half-half.result in
    let own = ap job_of_piece c.of-about.ensures ∙ first-job job c.args.seat.half ps c.index.result.now c.requires.windows c.requires.pieces c.index.ensures in
    let now = c.after_half.new.pieces.items in
    let after = subst (λ (j : DecodingJob). IsAfter j h now c.after_half.result) own c.after_half.ensures in
    let next = subst (IsAfter job h now) c.in-Running-after_half.is after in
    subst (λ (n : ℕ). AreAllReady job n now) (let e : suc h ≡ c.args.seat.half + 1 = (let a = c.half-half.ensures in omega (arith, a)) in e) next.0

pub turn-requires-clause-common : goal.turn-requires-clause-common
turn-requires-clause-common c =
    let job = board_job job_of_piece c.args.board.now in let ps = c.args.seat.pieces.items in let h : ℕ = c.half-half.result in
    let own = ap job_of_piece c.of-about.ensures ∙ first-job job c.args.seat.half ps c.index.result.now c.requires.windows c.requires.pieces c.index.ensures in
    let now = c.after_half.new.pieces.items in
    let after = subst (λ (j : DecodingJob). IsAfter j h now c.after_half.result) own c.after_half.ensures in
    let next = subst (IsAfter job h now) c.in-Running-after_half.is after in
    let e : suc h ≡ c.args.seat.half + 1 = (let a = c.half-half.ensures in omega (arith, a)) in
    (subst (λ (n : ℕ). IsProgress job n n c.in-Running-after_half.progress) e next.1.0, next.1.1)

pub stop-requires-clause-common : goal.stop-requires-clause-common
stop-requires-clause-common c =
    let job = board_job job_of_piece c.args.board.now in let ps = c.args.seat.pieces.items in let h : ℕ = c.half-half.result in
    let own = ap job_of_piece c.of-about.ensures ∙ first-job job c.args.seat.half ps c.index.result.now c.requires.windows c.requires.pieces c.index.ensures in
    let now = c.after_half.new.pieces.items in
    let after = subst (λ (j : DecodingJob). IsAfter j h now c.after_half.result) own c.after_half.ensures in
    let end = subst (IsAfter job h now) c.in-Decided.is after in
    subst (λ (n : ℕ). IsDecided job n (Decided c.in-Decided.result)) c.half-half.ensures end.1
