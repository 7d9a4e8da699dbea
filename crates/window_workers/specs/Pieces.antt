-- The piece of a window: held for a half, ready for its draw, and done.
use Rattle.std.specs.Prelude.{◌≡◌, ℕ, suc, ◌≤◌, map}
use Rattle.model_receiver.specs.HalfIteration.{BordersLeft, window_width, positions, order, systematic_at, parity_at, start_border, end_border, cells_in, left_after}
use Rattle.model_receiver.specs.Windows.{Extrinsic}
use Rattle.cell_shares.specs.declared.share.Share.{Share}
use Rattle.cell_shares.specs.Shares.{share_name, share_number, share_order, share_values}
use Rattle.window_workers.specs.declared.job.DecodingJob.{DecodingJob}
use Rattle.window_workers.specs.declared.view.WindowView.{WindowView}
use Rattle.window_workers.specs.declared.piece.Tools.{Tools}
use Rattle.window_workers.specs.declared.piece.WindowPiece.{WindowPiece}
use Rattle.window_workers.specs.Orders.{IsOrderIn}
use Rattle.window_workers.specs.Jobs.{IsJob, before_half}

-- the job that a piece is for
abbrev pub job_of_piece : WindowPiece → DecodingJob
job_of_piece p = record {
  streams = p.tools.streams.value;
  shape = p.tools.shape.value;
  name = share_name p.share;
}

abbrev pub share_of : WindowPiece → Share Extrinsic
share_of p = p.share

abbrev pub tools_of : WindowPiece → Tools
tools_of p = p.tools

-- the borders that its window left last
abbrev pub left_of_piece : WindowPiece → BordersLeft
left_of_piece p = p.tools.left

-- window t, as the halves read it that have the order of half h: the soft values and the place of each
-- position
pub record IsViewOf (job : DecodingJob) (h t : ℕ) (view : WindowView) : Type 0 where
  pub systematic : view.systematic.items
      ≡ map (systematic_at job.streams job.shape.k h) (positions job.shape t)
  pub parity : view.parity.items ≡ map (parity_at job.streams h) (positions job.shape t)
  pub places : view.places.items ≡ map (order job.shape.k h) (positions job.shape t)

-- what a worker needs for window t in every half: the window in both orders, and room
pub record AreTools (job : DecodingJob) (t : ℕ) (tools : Tools) : Type 0 where
  pub streams : tools.streams.value ≡ job.streams
  pub shape : tools.shape.value ≡ job.shape
  pub natural : IsViewOf job 0 t tools.natural
  pub interleaved : IsViewOf job 1 t tools.interleaved
  pub room : window_width job.shape ≤ tools.work

-- the piece has share t of the job's cells, split in the order of half h
pub record IsHeld (job : DecodingJob) (h t : ℕ) (p : WindowPiece) : Type 0 where
  pub lawful : IsJob job
  pub tools : AreTools job t p.tools
  pub name : share_name p.share ≡ job.name
  pub number : share_number p.share ≡ t
  pub order : IsOrderIn job.shape.k h (share_order p.share)

pub record IsReady (job : DecodingJob) (h t : ℕ) (p : WindowPiece) : Type 0 where
  pub held : IsHeld job h t p
  pub cells : share_values p.share ≡ cells_in job.shape h (before_half job h) t
  pub start : p.start ≡ start_border (before_half job h) t
  pub end : p.end ≡ end_border job.streams job.shape h (before_half job h) t

pub record IsDone (job : DecodingJob) (h t : ℕ) (p : WindowPiece) : Type 0 where
  pub held : IsHeld job h t p
  pub cells : share_values p.share ≡ cells_in job.shape h (before_half job (suc h)) t
  pub left : p.tools.left ≡ left_after job.streams job.shape h (before_half job h) t
