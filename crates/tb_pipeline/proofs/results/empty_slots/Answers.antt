use Rattle.std.proofs.Common.{rules, None, IfSome, take, sym, subst, ◌+◌, arith}
use Rattle.tb_pipeline.specs.Completions.{AreSlotsOf}
use Rattle.tb_pipeline.proofs.Zips.{some_at, zip_more}
use Rattle.tb_pipeline.proofs.results.empty_slots.Goals as goal

pub loop-preserved : goal.loop-preserved
loop-preserved g c =
    let jobs = c.args.jobs.now in let i = c.loop.counter in let here = some_at jobs i (omega (arith, c.loop-test.true, c.loop.auto.counter-end)) in (
      subst (λ l. AreSlotsOf g.J.Job.answers (take (i + 1) jobs) l) (sym c.push_reserved.ensures.items)
          (zip_more (λ job slot. IfSome slot (λ done. g.J.Job.answers job done)) jobs c.loop.slots.items i here.0 None here.1 c.loop.invariant.0 tt),
      search rules,
      search rules,
    )
