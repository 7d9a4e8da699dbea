-- What a board is opened with.
use Rattle.std.specs.Prelude.{◌≡◌, List}
use Rattle.lte_bits.specs.declared.block.SoftStreams.{SoftStreams}
use Rattle.model_receiver.specs.HalfIteration.{Shape}
use Rattle.window_workers.specs.declared.job.DecodingJob.{DecodingJob}
use Rattle.window_workers.specs.declared.piece.WindowPiece.{WindowPiece}
use Rattle.window_workers.specs.declared.common.WindowCommon.{WindowCommon}
use Rattle.window_workers.specs.Jobs.{IsJob}
use Rattle.window_workers.specs.Commons.{IsCommonOf}
use Rattle.window_workers.specs.HalfEnds.{AreAllReady}

-- the pieces and the common value of half 0, of a job with these streams and this shape
pub record AreFirst
    (soft : SoftStreams) (numbers : Shape)
    (pieces : List WindowPiece) (common : WindowCommon) : Type 0 where
  pub job : DecodingJob
  pub streams : job.streams ≡ soft
  pub shape : job.shape ≡ numbers
  pub lawful : IsJob job
  pub ready : AreAllReady job 0 pieces
  pub running : IsCommonOf job 0 common
