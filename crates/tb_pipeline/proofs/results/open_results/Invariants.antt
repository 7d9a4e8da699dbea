use Rattle.std.proofs.Common.{◌≡◌, None}
use Rattle.crossbeam_queue.specs.Passes.{IsPassOf, view}
use Rattle.tb_pipeline.specs.Completions.{values_of}
use Rattle.tb_pipeline.proofs.results.open_results.Given as goal

abbrev pub invariant-loop : goal.invariant-loop
invariant-loop g l =
    (goal.iterator-loop g).can_next l.iterator' × (goal.iterator-loop g).is_finite l.iterator'
    × IsPassOf l.queue l.pass × (view l.pass ≡ None) × (values_of l.all.items ≡ l.jobs)
