use Rattle.std.proofs.Common.{◌≡◌, ◌+◌, ◌++◌, [], ◌∷◌, length, map, reverse, ℕ, sym, ap, ◌∙◌, subst, refl, arith, length-append}
use Rattle.std.proofs.lemmas.List.{get_or_default}
use Rattle.model_receiver.specs.HalfIteration.{BordersLeft, none_left, start_by, end_by}
use Rattle.window_workers.specs.Pieces.{share_of, tools_of}
use Rattle.window_workers.proofs.MovedOver.{over, one_more_bordered, AreBorderedOf, start-more}
use Rattle.window_workers.proofs.assembly.put_together.Goals as goal

pub loop-t-preserved : goal.loop-t-preserved
loop-t-preserved c =
    let l = c.loop-t in let inv = l.invariant in let pushed = c.push_reserved.ensures in let share = c.in-Some.ensures in let tools = c.in-Some-pop.ensures in
    let windows : c.len-windows.result ≡ length c.args.shares.items = (let a = c.len-windows.ensures in let b = c.reverse.ensures.len in let d = c.args.shares.ok.0 in omega arith) in
    let more : length c.push_reserved.new.self.items ≡ length l.pieces.items + 1 = ap length pushed.items ∙ length-append l.pieces.items (_ ∷ []) in
    let less : length l.shares.items ≡ length c.pop.new.self.items + 1 = ap length share.items ∙ length-append c.pop.new.self.items (_ ∷ []) in
    let less_tools : length l.tools.items ≡ length c.pop-in-loop-t.new.self.items + 1 = ap length tools.items ∙ length-append c.pop-in-loop-t.new.self.items (_ ∷ []) in (
      ap (λ ps. map share_of ps ++ reverse c.pop.new.self.items) pushed.items
          ∙ (over share_of l.pieces.items _ c.pop.new.self.items c.in-Some.share refl ∙ (ap (λ ss. map share_of l.pieces.items ++ reverse ss) (sym share.items) ∙ inv.0)),
      ap (λ ps. map tools_of ps ++ reverse c.pop-in-loop-t.new.self.items) pushed.items
          ∙ (over tools_of l.pieces.items _ c.pop-in-loop-t.new.self.items c.in-Some-pop.its_tools refl ∙ (ap (λ ss. map tools_of l.pieces.items ++ reverse ss) (sym tools.items) ∙ inv.1)),
      (let a = inv.2 in omega (arith, more, a)),
      (let a = inv.3 in omega (arith, less, a)),
      (let a = inv.4 in omega (arith, less_tools, a)),
      (let a = inv.5 in let b = share.capacity in omega (arith, a, b)),
      (let a = inv.6 in let b = tools.capacity in omega (arith, a, b)),
      (let a = inv.7 in let b = pushed.capacity in omega (arith, a, b)),
      ap (λ (x : BordersLeft). x.forward) (c.earlier.view_is ∙ (c.index-left-t.is ∙ get_or_default c.args.left.now l.t c.index-left-t.result none_left
          (let a = c.loop-t-test.true in let b = c.requires.left in let e = l.auto.t-end in omega (arith, a, b, e, windows))))
          ∙ sym (start-more c.args.left.now l.t),
      subst (AreBorderedOf (length c.args.shares.items) c.args.left.now c.args.tail) (sym pushed.items)
          (one_more_bordered (length c.args.shares.items) c.args.left.now c.args.tail l.pieces.items _ inv.9
          (inv.8 ∙ ap (start_by c.args.left.now) (sym inv.2))
          (c.end_of.ensures ∙ (ap (λ (n : ℕ). end_by n c.args.left.now c.args.tail l.t) windows ∙ ap (end_by (length c.args.shares.items) c.args.left.now c.args.tail) (sym inv.2)))),
    )
