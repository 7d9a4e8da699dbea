-- The end of a half on a board.
use Rattle.std.proofs.Common.{◌≡◌, ℕ, ◌<◌, List, [], ◌∷◌, length, get_or, sym, ap, arith}
use mathlib.Core.Option.{some}
use lib.ListN.{get_elem?}
use Rattle.window_workers.specs.declared.job.DecodingJob.{DecodingJob}
use Rattle.window_workers.specs.declared.piece.WindowPiece.{WindowPiece}
use Rattle.window_workers.specs.Pieces.{job_of_piece, IsDone}
use Rattle.window_workers.specs.HalfEnds.{AreAllDone}
use Rattle.window_workers.proofs.OwnJobs.{job-of_held}

pub first-of : {X : Type 0} (xs : List X) (x : X) → 0 < length xs → x ≡ get_or xs 0 x → get_elem? xs 0 ≡ some x
first-of [] x lt e = absurd (omega (arith, lt))
first-of (y ∷ ys) x lt e = ap some (sym e)

-- what the first of the done pieces of a half tells
pub first-done : (job : DecodingJob) (h : ℕ) (ps : List WindowPiece) (p : WindowPiece) → 0 < job.shape.windows → AreAllDone job h ps → p ≡ get_or ps 0 p → IsDone job h 0 p
first-done job h ps p some_windows done e = done.1 0 p (first-of ps p (let a = done.0 in omega (arith, a, some_windows)) e)

pub first-job : (job : DecodingJob) (h : ℕ) (ps : List WindowPiece) (p : WindowPiece) → 0 < job.shape.windows → AreAllDone job h ps → p ≡ get_or ps 0 p → job_of_piece p ≡ job
first-job job h ps p some_windows done e = job-of_held job h 0 p (first-done job h ps p some_windows done e).held
