-- Blocks as jobs, and their outcomes.
use Rattle.std.specs.Prelude.{◌≡◌, List, map, IfOk, Result}
use Rattle.model_receiver.specs.Limits.{DecoderLimits}
use Rattle.model_receiver.specs.declared.result.TbOutcome.{TbOutcome}
use Rattle.coded_stream.specs.Header.{Header}
use Rattle.coded_stream.specs.Blocks.{Block}
use Rattle.coded_stream.specs.Shown.{header_of}
use Rattle.stream_loop.specs.Rounds.{block_of}
use Rattle.command_decode.specs.Decoding.{decoded}
use Rattle.command_batch.specs.declared.job.BlockJob.{BlockJob}

-- the block of a job, and those of jobs
abbrev pub block_in : BlockJob → Block
block_in j = block_of j.payload j.bytes

abbrev pub blocks_in : List BlockJob → List Block
blocks_in jobs = map block_in jobs

-- a job of a stream with this header, within these limits
abbrev pub IsJobOf : DecoderLimits → Header → BlockJob → Type 0
IsJobOf limits h j = (j.limits ≡ limits) × (header_of j.header ≡ h)

-- what its block comes to
abbrev pub outcome_of : BlockJob → TbOutcome
outcome_of j = decoded j.limits (header_of j.header) (block_in j)

-- a job is answered by what its block comes to, or since memory ran out
abbrev pub answers : {E : Type 0} → BlockJob → Result TbOutcome E → Type 0
answers j done = IfOk done (λ o. o ≡ outcome_of j)
