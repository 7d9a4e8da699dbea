use Rattle.std.proofs.Common.{Some, [], refl}
use Rattle.turbo_run.proofs.performing.perform.Goals as goal

pub returns-in-Trial-clause-ends : goal.returns-in-Trial-clause-ends
returns-in-Trial-clause-ends g c = rw c.in-Trial.is
    (c.run_trial.ensures (g.S.Source.left c.args.source.now) (g.D.Sink.held c.args.out.now) (g.S.Source.faults c.args.source.now) (g.D.Sink.faults c.args.out.now))

pub returns-in-Trial-clause-unread : goal.returns-in-Trial-clause-unread
returns-in-Trial-clause-unread g c =
    let ended = c.run_trial.ensures (Some []) (g.D.Sink.held c.args.out.now) (g.S.Source.faults c.args.source.now) (g.D.Sink.faults c.args.out.now) in
    rw c.in-Trial.is (refl, refl, (ended.ended [] refl).2)
