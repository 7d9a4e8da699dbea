-- The parts of an answer that jobs make.
use Rattle.std.specs.Prelude.{◌≡◌, ℕ, ◌+◌, List, [], ◌∷◌}
use Rattle.run_loop.specs.Answer.{Part}
use Rattle.run_loop.specs.declared.work.Stop.{Stop}
use Rattle.run_loop.specs.declared.work.Stop.TheVariants.{Go, Fails}
use Rattle.coded_stream.specs.Header.{Header}
use Rattle.model_receiver.specs.Limits.{DecoderLimits}
use Rattle.stream_loop.specs.Handling.{Handled, part, one_if}
use Rattle.stream_loop.specs.Rounds.{status_of, IsEnding}
use Rattle.command_decode.specs.Decoding.{decoding, handled}
use Rattle.command_batch.specs.Jobs.{block_in, outcome_of}
use Rattle.command_batch.specs.declared.job.BlockJob.{BlockJob}
use Rattle.command_batch.specs.declared.reading.Reached.{Reached}
use Rattle.command_batch.specs.declared.reading.Reached.TheVariants.{Full, End, Stopped}

-- what the block of a job adds, by its number
abbrev pub handled_job : (number : ℕ) → BlockJob → Handled
handled_job number j = handled number (outcome_of j)

abbrev pub job_part : (number : ℕ) → BlockJob → Part
job_part number j = part (handled_job number j) (block_in j)

-- the parts of jobs, the first of which has this number
abbrev pub job_parts : (first : ℕ) → List BlockJob → List Part
job_parts first [] = []
job_parts first (j ∷ jobs) = job_part first j ∷ job_parts (first + 1) jobs

-- how many of them failed
abbrev pub failures : (first : ℕ) → List BlockJob → ℕ
failures first [] = 0
failures first (j ∷ jobs) = one_if (handled_job first j).failed + failures (first + 1) jobs

-- how a round stops that came so far, after so many blocks of which so many failed
abbrev pub StopsAs : DecoderLimits → Header → (blocks failed : ℕ) → Reached → Stop → Type 0
StopsAs limits h blocks failed Full stop = stop ≡ Go
StopsAs limits h blocks failed End stop = IsEnding (decoding limits) h blocks failed stop
StopsAs limits h blocks failed (Stopped why) stop = stop ≡ Fails (status_of why)
