use Rattle.std.proofs.Common.{◌≡◌, ℕ, ℤ, List, get_or, map, sym, ap, ◌∙◌, subst, arith}
use Rattle.std.specs.List.{range_with_len}
use Rattle.std.specs.Prelude.{Option, None, unwrap_or}
use Rattle.std.specs.Vec.Iter.{into_iter_items, into_iter_len}
use Rattle.lte_bits.proofs.Pushes.{pushed_next}
use Rattle.model_sender.specs.Segmentation.{Plan}
use Rattle.segmentation.specs.Plans.{IsPlan}
use Rattle.model_receiver.specs.declared.result.CodeResult.{CodeResult}
use Rattle.model_receiver.specs.SoftCells.{Reception}
use Rattle.model_receiver.specs.Limits.{DecoderLimits}
use Rattle.model_receiver.specs.TransportBlocks.{Held, block_result, tried_block}
use Rattle.soft_buffers.specs.Buffers.{Hold}
use Rattle.block_receive.specs.Tries.{result_from, tried_block_from, tried_from}
use Rattle.block_receive.proofs.TriedBlocks.{drawn, drawn-next}
use Rattle.block_receive.proofs.tries.try_blocks.Goals as goal
use Rattle.block_receive.proofs.tries.try_blocks.Goals.{in-Some, in-None+in_ok-result-in-None}

pub loop-r-preserved : goal.loop-r-preserved
loop-r-preserved g c =
    let p : Plan = c.args.task.now.plan in
    let e : DecoderLimits = c.args.task.now.limits in
    let held : Held = c.args.held.items in
    let r : ℕ = c.loop-r.r in
    let left : Held = into_iter_items c.loop-r.held in
    let after : Held = into_iter_items c.next.new.self in
    let step = drawn-next held left after c.next.result r c.loop-r.invariant.left
    (drawn left after c.next.result (into_iter_len c.loop-r.held) (into_iter_len c.next.new.self) (sym c.loop-r.held.rest.ok.0) (sym c.next.new.self.rest.ok.0) c.next.ensures.cases) in
    let at : c.flatten.result ≡ get_or held r None = c.flatten.ensures ∙ step.0 in
    let is : (xs : List Reception) → Hold c.args.buffers.now xs → c.match-flatten.result ≡ tried_block p e xs held r =
    λ xs hold. elim c.match-flatten.branch [
      | in-Some w ↦ w.result-is ∙ ap (λ (o : Option CodeResult). unwrap_or o (block_result p e xs r)) (sym w.in-Some.is ∙ at)
      | in-None+in_ok-result-in-None w ↦
          w.result-is ∙ w.in_ok-result-in-None.ensures.received xs hold
          ∙ ap (λ (o : Option CodeResult). unwrap_or o (block_result p e xs r)) (sym w.in-None.is ∙ at)
    ] in
    let cells : List (List ℤ) = c.args.buffers.now.cells in
    let from : c.match-flatten.result ≡ tried_block_from p e cells held r =
    elim c.match-flatten.branch [
      | in-Some w ↦ w.result-is ∙ ap (λ (o : Option CodeResult). unwrap_or o (result_from p e cells r)) (sym w.in-Some.is ∙ at)
      | in-None+in_ok-result-in-None w ↦
          w.result-is ∙ w.in_ok-result-in-None.ensures.from
          ∙ ap (λ (o : Option CodeResult). unwrap_or o (result_from p e cells r)) (sym w.in-None.is ∙ at)
    ] in
    record {
      left = step.1;
      from = pushed_next (tried_block_from p e cells held) c.loop-r.results.items c.push.new.self.items r c.match-flatten.result
          c.loop-r.invariant.from c.in_ok-push.ensures.items from;
      tried = λ xs hold. pushed_next (tried_block p e xs held) c.loop-r.results.items c.push.new.self.items r c.match-flatten.result
          (c.loop-r.invariant.tried xs hold) c.in_ok-push.ensures.items (is xs hold);
    }

pub returns-clause-results : goal.returns-clause-results
returns-clause-results g c xs hold =
    let p : Plan = c.args.task.now.plan in
    let all : c.loop-r.r ≡ p.c = omega (arith, c.loop-r-test.false, c.loop-r.auto.r-end, ap (λ (q : Plan). q.c) c.plan.view_is) in
    c.loop-r.invariant.tried xs hold ∙ ap (λ (n : ℕ). map (tried_block p c.args.task.now.limits xs c.args.held.items) (range_with_len 0 n)) all

pub returns-clause-from : goal.returns-clause-from
unfolding tried_from
returns-clause-from g c =
    let p : Plan = c.args.task.now.plan in
    let all : c.loop-r.r ≡ p.c = omega (arith, c.loop-r-test.false, c.loop-r.auto.r-end, ap (λ (q : Plan). q.c) c.plan.view_is) in
    c.loop-r.invariant.from ∙ ap (λ (n : ℕ). map (tried_block_from p c.args.task.now.limits c.args.buffers.now.cells c.args.held.items) (range_with_len 0 n)) all

pub returns-clause-lawful : goal.returns-clause-lawful
returns-clause-lawful g c = subst IsPlan c.plan.view_is c.plan.invariant
