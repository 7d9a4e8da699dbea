use Rattle.std.proofs.Common.{◌≡◌, ℕ, List, Some}
use Rattle.run_loop.specs.Edges.{edges, HasMoved}
use Rattle.run_loop.specs.Step.{Reached}
use Rattle.run_loop.proofs.driver.drive.Given as goal

abbrev pub invariant-loop-round : goal.invariant-loop-round
invariant-loop-round g l = record {
  reached : (input : List ℕ) → g.S.Source.left l.fn.source ≡ Some input →
      Reached (g.O.Open.answer l.fn.command input) (g.O.Rounds.Work.answer l.work)
      (edges g.S.Source g.D.Sink g.R.Sink l.fn.source l.fn.out l.fn.report)
      (edges g.S.Source g.D.Sink g.R.Sink l.source l.out l.report);
  ready : g.O.Rounds.Work.ready l.work;
  moved : HasMoved (edges g.S.Source g.D.Sink g.R.Sink l.fn.source l.fn.out l.fn.report)
      (edges g.S.Source g.D.Sink g.R.Sink l.source l.out l.report);
}

abbrev pub decreases-loop-round : goal.decreases-loop-round
decreases-loop-round g l = g.O.Rounds.Work.budget l.work
