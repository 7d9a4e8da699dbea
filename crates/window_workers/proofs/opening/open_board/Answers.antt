use Rattle.std.proofs.Common.{◌<◌, sym, ap, ◌∙◌, subst, arith}
use Rattle.phase_board.specs.Boards.{board_job}
use Rattle.window_workers.specs.declared.job.DecodingJob.{DecodingJob}
use Rattle.window_workers.specs.Jobs.{IsJob}
use Rattle.window_workers.specs.Pieces.{job_of_piece}
use Rattle.window_workers.specs.Commons.{IsCommonOf}
use Rattle.window_workers.specs.HalfEnds.{AreAllReady}
use Rattle.window_workers.proofs.OwnJobs.{job-of_held}
use Rattle.window_workers.proofs.EndedHalves.{first-of}
use Rattle.window_workers.proofs.OpenedBoards.{opens, opened-job}
use Rattle.window_workers.proofs.opening.open_board.Goals as goal

pub index-requires : goal.index-requires
index-requires c =
    let first = c.in_ok-pieces.ensures in let a = first.ready.0 in let b = first.lawful.shape.some_windows in omega (arith, a, b)

pub new-requires : goal.new-requires
new-requires c =
    let first = c.in_ok-pieces.ensures in opens first.job c.in_ok-pieces.pieces.items c.in_ok-pieces.common first.lawful first.ready first.running

pub returns-in-Ok-clause-streams : goal.returns-in-Ok-clause-streams
returns-in-Ok-clause-streams c =
    let first = c.in_ok-pieces.ensures in
    let own = opened-job first.job (board_job job_of_piece c.in-Ok.made.0) c.in_ok-pieces.pieces.items first.lawful first.ready c.in-Ok.ensures.made.0 in
    ap (λ (j : DecodingJob). j.streams) own ∙ first.streams

pub returns-in-Ok-clause-shape : goal.returns-in-Ok-clause-shape
returns-in-Ok-clause-shape c =
    let first = c.in_ok-pieces.ensures in
    let own = opened-job first.job (board_job job_of_piece c.in-Ok.made.0) c.in_ok-pieces.pieces.items first.lawful first.ready c.in-Ok.ensures.made.0 in
    ap (λ (j : DecodingJob). j.shape) own ∙ first.shape

pub returns-in-Ok-clause-job : goal.returns-in-Ok-clause-job
returns-in-Ok-clause-job c =
    let first = c.in_ok-pieces.ensures in
    let own = opened-job first.job (board_job job_of_piece c.in-Ok.made.0) c.in_ok-pieces.pieces.items first.lawful first.ready c.in-Ok.ensures.made.0 in
    subst IsJob (sym own) first.lawful

pub discard-requires-clause-pieces : goal.discard-requires-clause-pieces
discard-requires-clause-pieces c =
    let first = c.in_ok-pieces.ensures in
    let ready = first.ready.1 0 c.index.result.now (first-of c.in_ok-pieces.pieces.items c.index.result.now
    (let a = first.ready.0 in let b = first.lawful.shape.some_windows in omega (arith, a, b)) c.index.ensures) in
    let own = ap job_of_piece c.of-about.ensures ∙ job-of_held first.job 0 0 c.index.result.now ready.held in
    subst (λ (j : DecodingJob). AreAllReady j 0 c.in-Err.refused.pieces.items) (sym own) (subst (AreAllReady first.job 0) (sym c.in-Err.ensures.refused.0) first.ready)

pub discard-requires-clause-common : goal.discard-requires-clause-common
discard-requires-clause-common c =
    let first = c.in_ok-pieces.ensures in
    let ready = first.ready.1 0 c.index.result.now (first-of c.in_ok-pieces.pieces.items c.index.result.now
    (let a = first.ready.0 in let b = first.lawful.shape.some_windows in omega (arith, a, b)) c.index.ensures) in
    let own = ap job_of_piece c.of-about.ensures ∙ job-of_held first.job 0 0 c.index.result.now ready.held in
    subst (λ (j : DecodingJob). IsCommonOf j 0 c.in-Err.refused.common) (sym own) (subst (IsCommonOf first.job 0) (sym c.in-Err.ensures.refused.1) first.running)

pub discard-requires-clause-windows : goal.discard-requires-clause-windows
discard-requires-clause-windows c =
    let first = c.in_ok-pieces.ensures in
    let ready = first.ready.1 0 c.index.result.now (first-of c.in_ok-pieces.pieces.items c.index.result.now
    (let a = first.ready.0 in let b = first.lawful.shape.some_windows in omega (arith, a, b)) c.index.ensures) in
    let own = ap job_of_piece c.of-about.ensures ∙ job-of_held first.job 0 0 c.index.result.now ready.held in
    subst (λ (j : DecodingJob). 0 < j.shape.windows) (sym own) (let b = first.lawful.shape.some_windows in omega (arith, b))
