use Rattle.std.proofs.Common.{rules, IfSome, take, sym, subst, ◌+◌, arith}
use Rattle.atomic_table.proofs.Lists.{at_index}
use Rattle.std.specs.List.{AllZip}
use Rattle.tb_pipeline.specs.Completions.{AreSlotsOf}
use Rattle.tb_pipeline.proofs.AnswerSteps.{slot_emptied}
use Rattle.tb_pipeline.proofs.Zips.{zip_at, zip_length, zip_more}
use Rattle.tb_pipeline.proofs.finishing.finish.Goals as goal

pub swap_at-slot-requires : goal.swap_at-slot-requires
swap_at-slot-requires g c =
    let answers = g.J.Job.answers in
    let same = zip_length (λ job slot. IfSome slot (λ done. answers job done)) c.args.jobs.now c.loop-number.slots c.loop-number.invariant.0 in
    omega (arith, same, c.loop-number-test.true, c.loop-number.auto.number-end)

pub answer_in-requires : goal.answer_in-requires
answer_in-requires g c =
    let answers = g.J.Job.answers in let jobs = c.args.jobs.now in let i = c.loop-number.number in let job = c.index-jobs-number.result in
    zip_at (λ job slot. IfSome slot (λ done. answers job done)) jobs c.loop-number.slots i job c.swap_at-slot.result c.loop-number.invariant.0
    (at_index jobs i job (omega (arith, c.loop-number-test.true, c.loop-number.auto.number-end)) c.index-jobs-number.is) c.swap_at-slot.ensures.value

pub loop-number-preserved : goal.loop-number-preserved
loop-number-preserved g c =
    let answers = g.J.Job.answers in let jobs = c.args.jobs.now in let i = c.loop-number.number in let job = c.index-jobs-number.result in (
      subst (λ l. AreSlotsOf answers jobs l) (sym c.swap_at-slot.ensures.slots) (slot_emptied answers jobs c.loop-number.slots c.loop-number.invariant.0 i),
      subst (λ l. AllZip answers (take (i + 1) jobs) l) (sym c.push_reserved.ensures.items)
          (zip_more answers jobs c.loop-number.answers.items i job c.answer_in.result
          (at_index jobs i job (omega (arith, c.loop-number-test.true, c.loop-number.auto.number-end)) c.index-jobs-number.is) c.loop-number.invariant.1 c.answer_in.ensures),
      search rules,
      search rules,
    )
