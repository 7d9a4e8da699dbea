use Rattle.std.proofs.Common.{◌≡◌, ℕ, ◌<◌, ◌∙◌, ap, subst, arith}
use Rattle.std.proofs.lemmas.List.{get_or_default}
use Rattle.model_receiver.specs.Borders.{Border}
use Rattle.model_receiver.specs.HalfIteration.{BordersLeft, none_left, end_by}
use Rattle.half_iteration.specs.Runs.{start_of, IsPartDone}
use Rattle.half_iteration.proofs.HalfSteps.{window-is, one_more_done, end-is, cells-all_done, left-all_done}
use Rattle.serial_decode.proofs.half.decode_half.Goals as goal

pub loop-t-preserved : goal.loop-t-preserved
loop-t-preserved c =
    let v = c.args.views.now in let l = c.loop-t in let part = l.invariant.part in
    let b = start_of c.args.cells.items c.args.left.now in
    let whole = c.windows-windows.ensures.whole in
    let more : l.t < v.shape.windows = omega (arith, c.loop-t-test.true, l.invariant.windows) in
    record {
      windows = l.invariant.windows;
      room = c.decode_window-new_cells.ensures.room ∙ l.invariant.room;
      part = one_more_done v.streams.now v.shape c.args.h b l.t l.cells.items c.decode_window-new_cells.result.0.items l.left l.start c.earlier.inside.forward
          _ c.decode_window-new_cells.result.1
          more
          part
          (window-is v.streams.now v.shape c.args.h b l.t l.cells.items l.left l.start c.end_of-end.result whole more part
          (c.end_of-end.ensures ∙ (ap (λ (n : ℕ). end_by n l.left c.tail-tail.result l.t) c.windows-windows.ensures.value
          ∙ (ap (λ (x : Border). end_by v.shape.windows l.left x l.t) c.tail-tail.ensures
          ∙ end-is v.streams.now v.shape c.args.h b l.t l.cells.items l.left l.start part))))
          c.decode_window-new_cells.ensures.cells
          c.decode_window-new_cells.ensures.left
          (ap (λ (x : BordersLeft). x.forward) (c.earlier.view_is ∙ (c.index-left-t.is ∙ get_or_default l.left l.t c.index-left-t.result none_left (omega (arith, more, part.left_long)))));
    }

pub returns-clause-cells : goal.returns-clause-cells
returns-clause-cells c =
    let v = c.args.views.now in let l = c.loop-t in
    let b = start_of c.args.cells.items c.args.left.now in
    cells-all_done v.streams.now v.shape c.args.h b l.cells.items l.left l.start c.windows-windows.ensures.whole
    (subst (λ (n : ℕ). IsPartDone v.streams.now v.shape c.args.h b n l.cells.items l.left l.start)
    (let e : l.t ≡ v.shape.windows = omega (arith, l.invariant.windows, c.loop-t-test.false, l.auto.t-end) in e) l.invariant.part)

pub returns-clause-left : goal.returns-clause-left
returns-clause-left c =
    let v = c.args.views.now in let l = c.loop-t in
    let b = start_of c.args.cells.items c.args.left.now in
    left-all_done v.streams.now v.shape c.args.h b l.cells.items l.left l.start
    (subst (λ (n : ℕ). IsPartDone v.streams.now v.shape c.args.h b n l.cells.items l.left l.start)
    (let e : l.t ≡ v.shape.windows = omega (arith, l.invariant.windows, c.loop-t-test.false, l.auto.t-end) in e) l.invariant.part)
