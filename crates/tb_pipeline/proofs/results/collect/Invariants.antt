use Rattle.std.proofs.Common.{◌≡◌, Some}
use Rattle.crossbeam_queue.specs.Passes.{IsPassOf, view}
use Rattle.tb_pipeline.specs.Completions.{AreSlotsOf}
use Rattle.tb_pipeline.proofs.results.collect.Given as goal

abbrev pub invariant-loop : goal.invariant-loop
invariant-loop g l = IsPassOf l.answers.queue l.pass × (view l.pass ≡ Some l.jobs) × AreSlotsOf g.J.Job.answers l.jobs l.slots
