use Rattle.std.proofs.Common.{arith, ◌<◌, length}
use Rattle.atomic_table.proofs.Lists.{at_index}
use Rattle.tb_pipeline.proofs.AnswerSteps.{sends_one}
use Rattle.tb_pipeline.proofs.working.work.Goals as goal

pub push_as-requires-clause-rule : goal.push_as-requires-clause-rule
push_as-requires-clause-rule g c =
    let jobs = c.args.jobs.now in let job = c.index-jobs-number.result in
    let inside : c.in-Job.number < length jobs = (let a = c.in-Job.ensures.1 in let b = c.requires.count in omega (arith, a, b)) in
    (sends_one g.J.Job.answers _ _ jobs c.loop.invariant.5 _ _ (job, at_index jobs c.in-Job.number job inside c.index-jobs-number.is, c.run-done.ensures), λ items views holds at. tt)
