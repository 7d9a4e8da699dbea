use Rattle.std.proofs.Common.{◌≡◌, ◌≤◌, length, take, vec_capacity}
use Rattle.tb_pipeline.specs.Completions.{values_of}
use Rattle.tb_pipeline.proofs.results.seen.Given as goal

abbrev pub invariant-loop-number : goal.invariant-loop-number
invariant-loop-number g l = (values_of l.all.items ≡ take l.number l.jobs) × (length l.all.items ≡ l.number) × (length l.jobs ≤ vec_capacity l.all)
