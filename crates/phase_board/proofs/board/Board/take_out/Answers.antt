use Rattle.std.proofs.Common.{arith, refl, sym, subst, ◌∙◌, ℕ, ◌<◌, ◌++◌, [], ◌∷◌}
use Rattle.phase_board.proofs.Carried.{front}
use Rattle.phase_board.proofs.TakesOut.{pulled, same_head, piece_same}
use Rattle.phase_board.proofs.board.Board.take_out.Goals as goal

pub take_front-requires-clause-front : goal.take_front-requires-clause-front
take_front-requires-clause-front g c = (_, front _ _ _ _ _ c.requires.out.3 refl)

pub take_front-requires-in-loop-i-clause-front : goal.take_front-requires-in-loop-i-clause-front
take_front-requires-in-loop-i-clause-front g c =
    let inv = c.loop-i.invariant.0 in
    let t = pulled _ _ inv.0 c.loop-i.i c.loop-i.seat.me.1 (subst (λ (z : ℕ). c.loop-i.i < z) (sym (inv.1.0 ∙ c.requires.size)) c.loop-i-test.true) inv.2 in (_, t.2)

pub unreachable-requires-in-Empty-take_front : goal.unreachable-requires-in-Empty-take_front
unreachable-requires-in-Empty-take_front g c =
    let inv = c.loop-i.invariant.0 in
    let t = pulled _ _ inv.0 c.loop-i.i c.loop-i.seat.me.1 (subst (λ (z : ℕ). c.loop-i.i < z) (sym (inv.1.0 ∙ c.requires.size)) c.loop-i-test.true) inv.2 in
    let e = same_head _ _ _ _ _ _ t.2 c.take_front-in-loop-i.ensures.slots.0 ∙ c.in-Empty-take_front.is in cc

pub unreachable-requires-in-Common-take_front : goal.unreachable-requires-in-Common-take_front
unreachable-requires-in-Common-take_front g c =
    let inv = c.loop-i.invariant.0 in
    let t = pulled _ _ inv.0 c.loop-i.i c.loop-i.seat.me.1 (subst (λ (z : ℕ). c.loop-i.i < z) (sym (inv.1.0 ∙ c.requires.size)) c.loop-i-test.true) inv.2 in
    let e = same_head _ _ _ _ _ _ t.2 c.take_front-in-loop-i.ensures.slots.0 ∙ c.in-Common-take_front.is in cc

pub loop-i-preserved : goal.loop-i-preserved
loop-i-preserved g c =
    let inv = c.loop-i.invariant.0 in let kept = c.loop-i.invariant in let took = c.take_front-in-loop-i.ensures in
    let t = pulled _ _ inv.0 c.loop-i.i c.loop-i.seat.me.1 (subst (λ (z : ℕ). c.loop-i.i < z) (sym (inv.1.0 ∙ c.requires.size)) c.loop-i-test.true) inv.2 in
    let e = same_head _ _ _ _ _ _ t.2 took.slots.0 ∙ c.in-Piece-take_front.is in
    let piece_is = sym (piece_same _ _ e) in (
      (
        inv.0,
        inv.1,
        took.slots.1 ∙ t.3,
        c.in_default.ensures.items ∙ ((λ j. inv.3 j ++ piece_is j ∷ []) ∙ sym t.4),
        (let a = inv.4 in let b = c.push.ensures.capacity in omega arith),
      ),
      took.seat.0 ∙ kept.1,
      took.seat.1 ∙ kept.2,
      took.seat.2 ∙ kept.3,
    )
