-- The job of a decoding.
use Rattle.std.specs.Prelude.{◌≡◌, ℕ}
use Rattle.model_receiver.specs.HalfIteration.{IsShape, Before}
use Rattle.model_receiver.specs.Decoding.{before}
use Rattle.half_iteration.specs.Views.{AreStreams}
use Rattle.window_workers.specs.declared.job.DecodingJob.{DecodingJob}

-- what half h starts from
abbrev pub before_half : DecodingJob → ℕ → Before
before_half job h = before job.streams job.shape h

-- streams of length k + 4 with the shape's fillers, and cells of the shape's size and number of windows
pub record IsJob (job : DecodingJob) : Type 0 where
  pub shape : IsShape job.shape
  pub streams : AreStreams job.streams job.shape
  pub count : job.name.count ≡ job.shape.k
  pub windows : job.name.windows ≡ job.shape.windows
