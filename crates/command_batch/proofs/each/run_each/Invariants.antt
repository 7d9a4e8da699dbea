use Rattle.std.proofs.Common.{take}
use Rattle.std.specs.List.{AllZip}
use Rattle.command_batch.specs.Jobs.{answers}
use Rattle.command_batch.proofs.each.run_each.Given as goal

abbrev pub invariant-loop-job : goal.invariant-loop-job
invariant-loop-job l = AllZip answers (take l.job-index l.jobs) l.done.items
