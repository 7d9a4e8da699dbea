use Rattle.std.proofs.Common.{◌≡◌, ◌+◌, ◌∷◌, [], length, map, reverse, sym, ap, ◌∙◌, arith, append-nil, length-append}
use Rattle.std.proofs.lemmas.List.{reverse-append}
use Rattle.phase_board.specs.declared.view.Slot.TheVariants.{Piece as Holds}
use Rattle.phase_board.specs.declared.view.Slot.TheVariants.{Common as Keeps}
use Rattle.phase_board.proofs.Laid.{all_of, holding, over, none_of}
use Rattle.phase_board.proofs.new_board.lay.Goals as goal

pub loop-i-init : goal.loop-i-init
loop-i-init g c =
    let made = c.in-Ok.ensures in (
      ap (λ ss. all_of _ _ c.args.pieces.items ss) made.items ∙ append-nil (holding _ _ c.args.pieces.items),
      omega arith,
      ap length made.items,
      (let a = made.capacity in let b = c.len.ensures in let d = c.args.pieces.ok.0 in omega arith),
      (let a = c.args.pieces.ok in omega arith),
    )

pub push_reserved-requires : goal.push_reserved-requires
push_reserved-requires g c =
    let inv = c.loop-i.invariant in let a = c.loop-i.slots.ok.0 in let b = inv.2 in let d = inv.3 in let e = c.loop-i-test.true in let f = c.len-i-end.ensures in let h = c.args.pieces.ok.0 in
    omega arith

pub unreachable-requires : goal.unreachable-requires
unreachable-requires g c =
    let inv = c.loop-i.invariant in let a = c.in-None.ensures.cases.0 in let b = c.loop-i.pieces.ok.0 in let d = inv.1 in let e = c.loop-i-test.true in let f = c.len-i-end.ensures in
    let h = c.args.pieces.ok.0 in omega arith

pub loop-i-preserved : goal.loop-i-preserved
loop-i-preserved g c =
    let inv = c.loop-i.invariant in let popped = c.in-Some.ensures in let pushed = c.push_reserved.ensures in
    let less : length c.loop-i.pieces.items ≡ length c.pop.new.self.items + 1 = ap length popped.items ∙ length-append c.pop.new.self.items (c.in-Some.piece ∷ []) in
    let more : length c.push_reserved.new.self.items ≡ length c.loop-i.slots.items + 1 = ap length pushed.items ∙ length-append c.loop-i.slots.items (Holds c.in-Some.piece ∷ []) in (
      ap (λ ss. all_of _ _ c.pop.new.self.items ss) pushed.items ∙ sym (over _ _ c.pop.new.self.items c.in-Some.piece c.loop-i.slots.items)
          ∙ ap (λ ps. all_of _ _ ps c.loop-i.slots.items) (sym popped.items) ∙ inv.0,
      (let a = inv.1 in omega arith),
      (let a = inv.2 in omega arith),
      (let a = inv.3 in let b = pushed.capacity in omega arith),
      (let a = inv.4 in let b = popped.capacity in omega arith),
    )

pub push_reserved-requires-2 : goal.push_reserved-requires-2
push_reserved-requires-2 g c =
    let inv = c.loop-i.invariant in let a = c.loop-i.slots.ok.0 in let b = inv.2 in let d = inv.3 in let e = c.loop-i.auto.i-end in let f = c.len-i-end.ensures in let h = c.args.pieces.ok.0 in
    omega arith

pub returns-clause-laid : goal.returns-clause-laid
returns-clause-laid g c =
    let inv = c.loop-i.invariant in
    let none : c.loop-i.pieces.items ≡ [] = none_of c.loop-i.pieces.items (let a = inv.1 in let b = c.loop-i-test.false in let d = c.len-i-end.ensures in let e = c.args.pieces.ok.0 in omega arith) in
    let slots : reverse c.loop-i.slots.items ≡ map (λ p. Holds p) c.args.pieces.items = ap (λ ps. all_of _ _ ps c.loop-i.slots.items) (sym none) ∙ inv.0 in (
      c.loop-i.pieces,
      c.reverse.ensures.items ∙ ap reverse c.push_reserved-2.ensures.items ∙ reverse-append c.loop-i.slots.items (Keeps c.args.common c.loop-i.pieces ∷ [])
          ∙ ap (λ l. Keeps c.args.common c.loop-i.pieces ∷ l) slots,
      (none, inv.4),
    )
