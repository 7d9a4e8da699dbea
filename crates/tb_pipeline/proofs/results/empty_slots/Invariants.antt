use Rattle.std.proofs.Common.{◌≡◌, ◌≤◌, length, take, vec_capacity}
use Rattle.tb_pipeline.specs.Completions.{AreSlotsOf}
use Rattle.tb_pipeline.proofs.results.empty_slots.Given as goal

abbrev pub invariant-loop : goal.invariant-loop
invariant-loop g l =
    AreSlotsOf g.J.Job.answers (take l.counter l.jobs) l.slots.items × (length l.slots.items ≡ l.counter) × (length l.jobs ≤ vec_capacity l.slots)
