use Rattle.std.proofs.Common.{◌≡◌, ◌-◌, ◌≤◌, length, reverse}
use Rattle.window_workers.specs.declared.job.DecodingJob.{DecodingJob}
use Rattle.window_workers.specs.Pieces.{AreTools}
use Rattle.window_workers.proofs.DonePieces.{EachFrom}
use Rattle.window_workers.proofs.opening_pieces.all_tools.Given as goal

abbrev pub invariant-loop-i : goal.invariant-loop-i
invariant-loop-i l =
    (length l.tools.items ≡ l.i) × (l.i ≤ l.views.shape.windows)
    × ((job : DecodingJob) → job.streams ≡ l.views.streams.now → job.shape ≡ l.views.shape → EachFrom (λ t x. AreTools job t x) (l.views.shape.windows - l.i) (reverse l.tools.items))
