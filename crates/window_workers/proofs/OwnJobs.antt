-- A held piece knows its job and its window.
use Rattle.std.proofs.Common.{◌≡◌, ℕ, ◌<◌, sym, subst}
use Rattle.cell_shares.specs.Shares.{share_number}
use Rattle.window_workers.specs.declared.job.DecodingJob.{DecodingJob}
use Rattle.window_workers.specs.declared.piece.WindowPiece.{WindowPiece}
use Rattle.window_workers.specs.Pieces.{job_of_piece, IsHeld, IsReady, IsDone}

module _ (job : DecodingJob) (h t : ℕ) (p : WindowPiece) where
  pub job-of_held : IsHeld job h t p → job_of_piece p ≡ job
  job-of_held held = λ i. record { streams = held.tools.streams i; shape = held.tools.shape i; name = held.name i }

  pub own-ready : IsReady job h t p → IsReady (job_of_piece p) h (share_number p.share) p
  own-ready r =
      subst (λ (j : DecodingJob). IsReady j h (share_number p.share) p) (sym (job-of_held r.held))
      (subst (λ (n : ℕ). IsReady job h n p) (sym r.held.number) r)

  pub own-window : IsReady job h t p → t < job.shape.windows → share_number p.share < (job_of_piece p).shape.windows
  own-window r lt =
      subst (λ (j : DecodingJob). share_number p.share < j.shape.windows) (sym (job-of_held r.held))
      (subst (λ (n : ℕ). n < job.shape.windows) (sym r.held.number) lt)

  pub done-of_own : (q : WindowPiece) → IsReady job h t p → IsDone (job_of_piece p) h (share_number p.share) q → IsDone job h t q
  done-of_own q r d =
      subst (λ (n : ℕ). IsDone job h n q) r.held.number
      (subst (λ (j : DecodingJob). IsDone j h (share_number p.share) q) (job-of_held r.held) d)
