use Rattle.std.proofs.Common.{◌≡◌, ◌+◌, ◌∷◌, [], ◌++◌, length, reverse, sym, subst, ap, ◌∙◌, arith, append-nil, length-append}
use Rattle.std.proofs.lemmas.List.{length-map, length-reverse}
use Rattle.phase_board.specs.Slots.{HasRoom}
use Rattle.phase_board.specs.declared.view.Slot.TheVariants.{Piece as Holds}
use Rattle.phase_board.specs.declared.view.Slot.TheVariants.{Common as Keeps}
use Rattle.phase_board.proofs.Laid.{all_of, holding, over, is_piece, not_empty, not_common, taken_last, none_of}
use Rattle.phase_board.proofs.new_board.unlay.Goals as goal

pub loop-i-init : goal.loop-i-init
loop-i-init g c =
    let given = c.requires in let took = c.in-Some-Common in let ps = given.2 in
    let swapped = taken_last _ _ _ took.field-0 _ c.pop.new.self.items (ap reverse (sym given.3) ∙ sym c.reverse.ensures.items ∙ took.ensures.items) in
    let full = given.3 ∙ swapped ∙ ap (λ x. x ∷ reverse c.pop.new.self.items) took.field-0-is in
    let here = sym given.3 ∙ full in
    let room : given.1 ≡ took.room = cc in let slots : reverse c.pop.new.self.items ≡ holding _ _ ps = cc in
    let fits : HasRoom (length ps) took.room = subst (HasRoom (length ps)) room given.4 in
    let long : length c.pop.new.self.items ≡ length ps = sym (length-reverse c.pop.new.self.items) ∙ ap length slots ∙ length-map ps _ in (
      ps,
      took.room,
      full ∙ ap (λ l. Keeps took.common took.room ∷ l) slots,
      ap (λ xs. all_of _ _ xs c.pop.new.self.items) fits.0 ∙ slots,
      (let a = ap length fits.0 in omega arith),
      fits.1,
      (let a = c.len-i-end.ensures in let b = c.pop.new.self.ok.0 in omega arith),
    )

pub push_reserved-requires : goal.push_reserved-requires
push_reserved-requires g c =
    let inv = c.loop-i.invariant in let a = c.loop-i.pieces.ok.0 in let b = inv.4 in let d = inv.5 in let e = inv.6 in let f = c.loop-i-test.true in omega arith

pub unreachable-requires-in-Some-Empty-pop : goal.unreachable-requires-in-Some-Empty-pop
unreachable-requires-in-Some-Empty-pop g c =
    let inv = c.loop-i.invariant in let took = c.in-Some-Empty-pop in
    let t = is_piece g.row.P.Denot g.row.P-Common.Denot c.loop-i.pieces.items c.pop-in-loop-i.new.self.items took.field-0 inv.0
    (ap (λ ss. all_of _ _ c.loop-i.pieces.items ss) (sym took.ensures.items) ∙ inv.3) in not_empty _ _ took.field-0 t.0 took.field-0-is t.1

pub unreachable-requires-in-Some-Common-pop : goal.unreachable-requires-in-Some-Common-pop
unreachable-requires-in-Some-Common-pop g c =
    let inv = c.loop-i.invariant in let took = c.in-Some-Common-pop in
    let t = is_piece g.row.P.Denot g.row.P-Common.Denot c.loop-i.pieces.items c.pop-in-loop-i.new.self.items took.field-0 inv.0
    (ap (λ ss. all_of _ _ c.loop-i.pieces.items ss) (sym took.ensures.items) ∙ inv.3) in not_common _ _ took.field-0 _ _ t.0 took.field-0-is t.1

pub unreachable-requires-in-None-pop : goal.unreachable-requires-in-None-pop
unreachable-requires-in-None-pop g c =
    let inv = c.loop-i.invariant in let a = c.in-None-pop.ensures.cases.0 in let b = c.loop-i.slots.ok.0 in let d = inv.6 in let e = c.loop-i-test.true in omega arith

pub loop-i-preserved : goal.loop-i-preserved
loop-i-preserved g c =
    let inv = c.loop-i.invariant in let took = c.in-Some-Piece-pop in let pushed = c.push_reserved.ensures in let left = c.pop-in-loop-i.new.self.items in
    let slots = took.ensures.items ∙ ap (λ x. left ++ x ∷ []) took.field-0-is in
    let less : length c.loop-i.slots.items ≡ length left + 1 = ap length slots ∙ length-append left (Holds took.piece ∷ []) in
    let more : length c.push_reserved.new.self.items ≡ length c.loop-i.pieces.items + 1 = ap length pushed.items ∙ length-append c.loop-i.pieces.items (took.piece ∷ []) in (
      inv.0,
      inv.1,
      inv.2,
      ap (λ xs. all_of _ _ xs left) pushed.items ∙ over _ _ c.loop-i.pieces.items took.piece left ∙ ap (λ ss. all_of _ _ c.loop-i.pieces.items ss) (sym slots) ∙ inv.3,
      (let a = inv.4 in omega arith),
      (let a = inv.5 in let b = pushed.capacity in omega arith),
      (let a = inv.6 in omega arith),
    )

pub destroy_empty-requires : goal.destroy_empty-requires
destroy_empty-requires g c =
    let inv = c.loop-i.invariant in let a = inv.6 in let b = c.loop-i-test.false in let d = c.loop-i.slots.ok.0 in omega arith

pub returns : goal.returns
returns g c =
    let inv = c.loop-i.invariant in let none = none_of c.loop-i.slots.items (let a = inv.6 in let b = c.loop-i-test.false in omega arith) in
    let same = sym (append-nil (holding _ _ c.loop-i.pieces.items)) ∙ ap (λ ss. all_of _ _ c.loop-i.pieces.items ss) (sym none) ∙ inv.3 in
    (inv.1, inv.2 ∙ ap (λ l. Keeps c.in-Some-Common.common inv.1 ∷ l) (sym same))
