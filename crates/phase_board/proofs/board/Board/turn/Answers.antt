use Rattle.std.proofs.Common.{rules, arith, sym, ap, subst, ◌∙◌, ℕ, ◌+◌, ◌*◌, ◌<◌, ◌≡◌}
use Rattle.phase_board.specs.ClaimWord.{half_of}
use Rattle.phase_board.specs.Slots.{HasRoom}
use Rattle.phase_board.specs.Steps.{IsFor}
use Rattle.phase_board.proofs.Clears.{clears}
use Rattle.phase_board.proofs.Turns.{turns}
use Rattle.phase_board.proofs.board.Board.turn.Goals as goal

pub swap-requires : goal.swap-requires
swap-requires g c = (c.requires.board.0, search rules, clears _ _ _ _ _ _ _ _ _ c.requires.board.1 c.args.seat.turns.1)

pub swap-requires-2 : goal.swap-requires-2
swap-requires-2 g c =
    let job = g.P.Piece.job c.args.self.now.table.shared.key.value in let m : ℕ = g.P.Piece.windows job in
    let cleared = ap (λ k. k.0) c.swap.ensures.2.0 in let view = c.put_back.ensures.seat.2 ∙ cleared in let slots = c.put_back.ensures.slots in
    let told = subst (IsFor _) c.requires.board.1 c.swap.ensures.2.1 in
    let size : c.args.self.now.count ≡ m = (let a = told in let b = c.args.self.now.sized.1 in omega arith) in
    let pos : 0 < m = (let a = c.args.self.now.sized.2 in omega arith) in (
      c.put_back.ensures.seat.0 ∙ c.swap.ensures.0 ∙ c.requires.board.0,
      search rules,
      turns _ _ _ _ _ _ _ _ _ _ c.args.seat.half c.args.seat.common slots.0 c.args.seat.pieces.items (ap (λ v. v.job) view ∙ c.requires.board.1) (ap (λ v. v.activity) view) slots.1
          (subst (λ (n : ℕ). HasRoom n slots.0) size slots.2)
          (c.args.seat.shows ∙ sym (ap (λ v. half_of v.loaded) view)) c.requires.limit (ap (λ (n : ℕ). (n + 1) * 256) c.from.ensures) pos c.requires.common c.requires.pieces,
    )
