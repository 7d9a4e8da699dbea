use mir.Syntax.{of_param, named}
use mathlib.Core.List.{[]}
use denote.Exit.{unseen}
use denote.Param.{param}
use denote.Param.Send.{Quiet-if, shr_slice_send}
use Rattle.tb_pipeline.specs.contracts.working.work_all.{J-row, J-Done-row}
use Rattle.tb_pipeline.proofs.Crossing.{Hand-send, Relay-sync, ResultSender-send, Answers-sync}
use Rattle.tb_pipeline.proofs.working.+fn-work_all-join+arg3+work_all.Goals as goal

-- The first closure may go to another thread: so may each value that it captures, in their order, and leaving
-- it leaves nothing behind. `search` finds this of each value, but not of all seven at once.
pub join-ended-requires-send-F : goal.join-ended-requires-send-F
join-ended-requires-send-F g t c κs within =
    let facts = c.requires.crossing in let runtime = facts.0 in let start = facts.1 in let job = facts.2 in let done = facts.3 in
    let jobs = shr_slice_send (named 0) κs.1.1.1.1.1.1.1.1.0 (param 0 g.row.J) job in
    let answers = Answers-sync (J-row g.row.J g.row.G g.row.R g.row.J-Done) (J-Done-row g.row.J g.row.G g.row.R g.row.J-Done) done g.J.Job in
    let sender = ResultSender-send (J-row g.row.J g.row.G g.row.R g.row.J-Done) (J-Done-row g.row.J g.row.G g.row.R g.row.J-Done) done in
    record {
      owned = λ x vs us. (
        tt,
        (
          (tt, runtime.shared _ _ _ _),
          (
            (tt, Relay-sync.shared x.1.now _ _ _),
            (Hand-send.owned x.2 us.1.1.0, (jobs.owned x.3 [], ((tt, start.shared _ _ _ _), ((tt, answers.shared x.5.now _ _ _), (sender.owned x.6 us.1.1.1.1.1.1.0, tt))))),
          ),
        ),
      );
      leaving = λ k. Quiet-if (k (of_param 1)) _ unseen (λ x w. (tt, (tt, ((tt, tt), (tt, (tt, (tt, ((tt, tt), tt)))))))) (λ x w. tt);
    }
