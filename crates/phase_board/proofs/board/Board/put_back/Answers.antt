use Rattle.std.proofs.Common.{◌≡◌, ◌∷◌, ◌++◌, [], length, ◌+◌, ◌<◌, sym, refl, ap, ◌∙◌, arith}
use Rattle.atomic_table.specs.Table.{rest}
use Rattle.phase_board.specs.declared.view.Slot.TheVariants.{Piece as Holds}
use Rattle.phase_board.specs.declared.view.Slot.TheVariants.{Common as Keeps}
use Rattle.phase_board.proofs.Carried.{front}
use Rattle.phase_board.proofs.TakesOut.{same_head}
use Rattle.phase_board.proofs.PutsBack.{none_filled, all_filled, pushed, last_same, all_popped, not_popped}
use Rattle.phase_board.proofs.board.Board.put_back.Goals as goal

pub loop-i-init : goal.loop-i-init
loop-i-init g c = (
  ap (λ m. m.1) c.turn.ensures.2 ∙ none_filled _ _ c.args.pieces.items c.args.self.now.count c.args.seat.now.me.1 c.requires.size c.requires.empty,
  c.reverse.ensures.items,
  (let a = c.args.pieces.ok in let b = c.reverse.ensures.capacity in omega arith),
  c.turn.ensures.0,
  c.turn.ensures.1,
  ap (λ m. m.0) c.turn.ensures.2,
)

pub put_front-requires-clause-board : goal.put_front-requires-clause-board
put_front-requires-clause-board g c = c.loop-i.invariant.3 ∙ c.requires.board

pub put_front-requires-clause-front : goal.put_front-requires-clause-front
put_front-requires-clause-front g c =
    let inv = c.loop-i.invariant in let lt : c.loop-i.i < length c.args.pieces.items = (let a = c.requires.size in let b = c.loop-i-test.true in omega arith) in
    (pushed _ _ c.args.pieces.items c.loop-i.i c.loop-i.seat.me.1 c.loop-i.pieces.items lt inv.0 inv.1).2

pub unreachable-requires : goal.unreachable-requires
unreachable-requires g c =
    let inv = c.loop-i.invariant in let lt : c.loop-i.i < length c.args.pieces.items = (let a = c.requires.size in let b = c.loop-i-test.true in omega arith) in
    let t = pushed _ _ c.args.pieces.items c.loop-i.i c.loop-i.seat.me.1 c.loop-i.pieces.items lt inv.0 inv.1 in
    not_popped _ g.row.P-Common.Denot _ _ _ t.1 (let a = c.in-None.ensures.cases.0 in let b = c.loop-i.pieces.ok.0 in omega arith)

pub loop-i-preserved : goal.loop-i-preserved
loop-i-preserved g c =
    let inv = c.loop-i.invariant in let lt : c.loop-i.i < length c.args.pieces.items = (let a = c.requires.size in let b = c.loop-i-test.true in omega arith) in
    let t = pushed _ _ c.args.pieces.items c.loop-i.i c.loop-i.seat.me.1 c.loop-i.pieces.items lt inv.0 inv.1 in
    let popped = last_same _ g.row.P-Common.Denot _ _ _ _ (sym c.in-Some.ensures.items ∙ t.1) in let put = c.put_front.ensures in (
      put.slots ∙ ap (λ p. rest c.loop-i.seat.me.1 ++ (c.loop-i.i + 1, Holds p) ∷ []) popped.1 ∙ t.3,
      popped.0,
      (let a = inv.2 in let b = c.pop.ensures.capacity in omega arith),
      put.seat.0 ∙ inv.3,
      put.seat.1 ∙ inv.4,
      put.seat.2 ∙ inv.5,
    )

pub exchange-requires : goal.exchange-requires
exchange-requires g c =
    let inv = c.loop-i.invariant in let long : length c.args.pieces.items ≡ c.loop-i.i = (let a = c.requires.size in let b = c.loop-i-test.false in let d = c.loop-i.auto.i-end in omega arith) in
    (inv.3 ∙ c.requires.board, (_, front _ _ _ _ _ (inv.0 ∙ all_filled _ _ c.args.pieces.items c.loop-i.i long) refl))

pub unreachable-requires-in-Piece : goal.unreachable-requires-in-Piece
unreachable-requires-in-Piece g c =
    let inv = c.loop-i.invariant in let long : length c.args.pieces.items ≡ c.loop-i.i = (let a = c.requires.size in let b = c.loop-i-test.false in let d = c.loop-i.auto.i-end in omega arith) in
    let e = same_head _ _ _ _ _ _ (inv.0 ∙ all_filled _ _ c.args.pieces.items c.loop-i.i long) c.exchange.ensures.2 ∙ c.in-Piece.is in cc

pub unreachable-requires-in-Common : goal.unreachable-requires-in-Common
unreachable-requires-in-Common g c =
    let inv = c.loop-i.invariant in let long : length c.args.pieces.items ≡ c.loop-i.i = (let a = c.requires.size in let b = c.loop-i-test.false in let d = c.loop-i.auto.i-end in omega arith) in
    let e = same_head _ _ _ _ _ _ (inv.0 ∙ all_filled _ _ c.args.pieces.items c.loop-i.i long) c.exchange.ensures.2 ∙ c.in-Common.is in cc

pub returns-clause-seat : goal.returns-clause-seat
returns-clause-seat g c = let inv = c.loop-i.invariant in let put = c.exchange.ensures in (put.0 ∙ inv.3, put.1 ∙ inv.4, ap (λ m. m.0) put.3 ∙ inv.5)

pub returns-clause-slots : goal.returns-clause-slots
returns-clause-slots g c =
    let inv = c.loop-i.invariant in let put = c.exchange.ensures in
    let long : length c.args.pieces.items ≡ c.loop-i.i = (let a = c.requires.size in let b = c.loop-i-test.false in let d = c.loop-i.auto.i-end in omega arith) in (
      c.loop-i.pieces,
      ap (λ m. m.1) put.3 ∙ ap (λ l. (0, Keeps c.args.common c.loop-i.pieces) ∷ rest l) (inv.0 ∙ all_filled _ _ c.args.pieces.items c.loop-i.i long),
      (all_popped _ g.row.P-Common.Denot c.args.pieces.items c.loop-i.pieces.items c.loop-i.i (omega arith) inv.1, (let a = inv.2 in let b = c.requires.size in omega arith)),
    )
