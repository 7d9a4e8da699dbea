-- What the worker that ends a half does with the pieces.
use Rattle.std.specs.Prelude.{◌≡◌, ℕ, suc, ◌+◌, ◌-◌, ◌==◌, if◌then◌else◌, List, [], length, reverse}
use mathlib.Core.Option.{some}
use lib.ListN.{get_elem?}
use Rattle.model_receiver.specs.Borders.{Border}
use Rattle.model_receiver.specs.HalfIteration.{BordersLeft, left_after, start_by, end_by}
use Rattle.phase_board.specs.Slots.{AllPieces}
use Rattle.window_workers.specs.declared.job.DecodingJob.{DecodingJob}
use Rattle.window_workers.specs.declared.piece.Tools.{Tools}
use Rattle.window_workers.specs.declared.piece.WindowPiece.{WindowPiece}
use Rattle.window_workers.specs.declared.common.Stage.{Stage}
use Rattle.window_workers.specs.declared.common.Stage.TheVariants.{Running, Decided}
use Rattle.window_workers.specs.Jobs.{before_half}
use Rattle.window_workers.specs.Pieces.{AreTools, IsReady, IsDone}
use Rattle.window_workers.specs.Commons.{IsRunning, IsResultAt}

-- each piece has the borders of its window
abbrev pub AreBordered : List BordersLeft → Border → List WindowPiece → Type 0
AreBordered left tail ps = (t : ℕ) (p : WindowPiece) → get_elem? ps t ≡ some p
    → (p.start ≡ start_by left t) × (p.end ≡ end_by (length ps) left tail t)

-- the tools of all windows, from last to first
abbrev pub AreAllTools : DecodingJob → List Tools → Type 0
AreAllTools job tools = AllPieces job.shape.windows (λ t x. AreTools job t x) (reverse tools)

-- and the borders in them are those that the windows of half h left
abbrev pub HaveLeft : DecodingJob → ℕ → List Tools → Type 0
HaveLeft job h tools =
    AllPieces job.shape.windows
    (λ t (x : Tools). x.left ≡ left_after job.streams job.shape h (before_half job h) t)
    (reverse tools)

-- all pieces of a half, ready or done
abbrev pub AreAllReady : DecodingJob → ℕ → List WindowPiece → Type 0
AreAllReady job h ps = AllPieces job.shape.windows (λ t p. IsReady job h t p) ps

abbrev pub AreAllDone : DecodingJob → ℕ → List WindowPiece → Type 0
AreAllDone job h ps = AllPieces job.shape.windows (λ t p. IsDone job h t p) ps

-- what comes after half h: the next half with its pieces, or the result
abbrev pub IsAfter : DecodingJob → ℕ → List WindowPiece → Stage → Type 0
IsAfter job h ps (Running p rooms) = AreAllReady job (suc h) ps × IsRunning job (suc h) (Running p rooms)
IsAfter job h ps (Decided r) = (ps ≡ []) × IsResultAt job h r
