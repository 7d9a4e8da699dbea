use Rattle.std.proofs.Common.{◌+◌, take, sym, subst}
use Rattle.std.specs.List.{AllZip}
use Rattle.command_batch.specs.Jobs.{answers}
use Rattle.command_batch.specs.declared.job.BlockJob.{BlockJob}
use Rattle.command_batch.proofs.Made.{zip_push}
use Rattle.command_batch.proofs.each.run_each.Goals as goal

pub loop-job-preserved : goal.loop-job-preserved
loop-job-preserved c =
    let l = c.loop-job in
    let jobs = c.args.jobs.now in
    let j = c.job-item.result in
    let P : BlockJob → Type 0 = λ x. answers x c.run.result in
    subst (λ ys. AllZip answers (take (l.job-index + 1) jobs) ys) (sym c.in_ok-push.ensures.items)
    (zip_push jobs l.done.items l.job-index c.run.result j c.loop-job-test.true l.invariant (subst P c.job-item.is c.run.ensures))
