use Rattle.std.proofs.Common.{◌≡◌, ◌≤◌, length, take, vec_capacity}
use Rattle.std.specs.List.{AllZip}
use Rattle.tb_pipeline.specs.Completions.{AreSlotsOf}
use Rattle.tb_pipeline.proofs.finishing.finish.Given as goal

abbrev pub invariant-loop-number : goal.invariant-loop-number
invariant-loop-number g l =
    AreSlotsOf g.J.Job.answers l.jobs l.slots × AllZip g.J.Job.answers (take l.number l.jobs) l.answers.items
    × (length l.answers.items ≡ l.number) × (length l.jobs ≤ vec_capacity l.answers)
