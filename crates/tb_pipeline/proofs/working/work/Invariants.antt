use Rattle.std.proofs.Common.{◌≡◌, Some, false}
use Rattle.crossbeam_queue.specs.Passes.{IsPassOf, view}
use Rattle.tb_pipeline.specs.Hands.{IsHandOf, hand_view}
use Rattle.tb_pipeline.proofs.working.work.Given as goal

abbrev pub invariant-loop : goal.invariant-loop
invariant-loop g l =
    (goal.iterator-loop g).can_next l.iterator' × (goal.iterator-loop g).is_finite l.iterator'
    × IsHandOf l.relay l.hand × ((hand_view l.hand).ended ≡ false)
    × IsPassOf l.answers.queue l.pass × (view l.pass ≡ Some l.jobs)
