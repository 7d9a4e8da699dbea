-- What is asked of whoever does the jobs of a round.
use Rattle.std.specs.Prelude.{ℕ, ◌≤◌, List, Result, IfOk, length}
use Rattle.std.specs.Borrow.{Bor}
use Rattle.std.specs.List.{AllZip}
use Rattle.model_receiver.specs.declared.result.TbOutcome.{TbOutcome}
use Rattle.command_batch.specs.Jobs.{answers}
use Rattle.command_batch.specs.declared.job.BlockJob.{BlockJob}

-- some jobs, and pipes that do them
pub record AreRun (jobs : List BlockJob) (pipes : ℕ) : Type 0 where
  pub some_jobs : 1 ≤ length jobs
  pub few_jobs : length jobs ≤ 16
  pub some_pipes : 1 ≤ pipes
  pub few_pipes : pipes ≤ 8

-- it may be called with them
abbrev pub TakesJobs : {A : Type 0} → (A → Bor (List BlockJob) → ℕ → Type 0) → Type 0
TakesJobs {A} pre = (alloc : A) (jobs : Bor (List BlockJob)) (pipes : ℕ) → AreRun jobs.now pipes → pre alloc jobs pipes

-- and gives an answer of each, in their order, where it gives anything
abbrev pub GivesAnswers : {A E F : Type 0}
    → (A → Bor (List BlockJob) → ℕ → Result (List (Result TbOutcome F)) E → Type 0) → Type 0
GivesAnswers {A} {E} {F} post =
    (alloc : A) (jobs : Bor (List BlockJob)) (pipes : ℕ) (r : Result (List (Result TbOutcome F)) E)
    → post alloc jobs pipes r → IfOk r (AllZip answers jobs.now)
