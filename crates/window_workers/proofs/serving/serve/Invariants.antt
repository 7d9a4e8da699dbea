use Rattle.phase_board.specs.Seats.{IsIdleOf, idle_view}
use Rattle.window_workers.specs.Served.{GrewAlike}
use Rattle.window_workers.proofs.serving.serve.Given as goal

abbrev pub invariant-loop : goal.invariant-loop
invariant-loop g l =
    (goal.iterator-loop g).can_next l.iterator' × (goal.iterator-loop g).is_finite l.iterator'
    × IsIdleOf l.board l.seat × GrewAlike (idle_view l.fn.seat) (idle_view l.seat)
