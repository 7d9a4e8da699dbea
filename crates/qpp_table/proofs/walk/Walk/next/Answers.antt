use Rattle.qpp_table.proofs.WalkSteps.{place_more, step_more}
use Rattle.qpp_table.proofs.walk.Walk.next.Goals as goal

pub returns-clause-at : goal.returns-clause-at
returns-clause-at c = λ f1 f2 i h.
    let w = c.args.self in
    record {
      place = place_more w.size f1 f2 i w.place w.step c.sum_modulo.result h.place h.step c.sum_modulo.ensures.value;
      step = step_more w.size f1 f2 i w.step w.growth c.sum_modulo-2.result h.step h.growth c.sum_modulo-2.ensures.value;
      growth = h.growth;
    }
