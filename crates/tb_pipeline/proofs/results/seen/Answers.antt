use Rattle.std.proofs.Common.{rules, sym, ap, ◌∙◌, arith}
use Rattle.atomic_table.proofs.Lists.{at_index}
use mathlib.Core.Option.{some}
use Rattle.tb_pipeline.specs.Completions.{values_of}
use Rattle.tb_pipeline.proofs.Zips.{values_taken}
use Rattle.tb_pipeline.proofs.results.seen.Goals as goal

pub loop-number-preserved : goal.loop-number-preserved
loop-number-preserved g c =
    let jobs = c.args.jobs.now in let i = c.loop-number.number in
    let here = at_index jobs i c.index-jobs-number.result (omega (arith, c.loop-number-test.true, c.loop-number.auto.number-end)) c.index-jobs-number.is in (
      ap values_of c.push_reserved.ensures.items ∙ values_taken c.loop-number.all.items jobs i c.of.result c.loop-number.invariant.0 (here ∙ ap some (sym c.of.ensures)),
      search rules,
      search rules,
    )
