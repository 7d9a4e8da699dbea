use Rattle.std.proofs.Common.{rules, arith, sym, ap, ◌∙◌, ℕ, ◌+◌, ◌-◌, ◌*◌, ◌^◌, ◌≡◌, ◌∷◌}
use Rattle.atomic_table.specs.Table.{rest}
use Rattle.phase_board.specs.declared.view.Slot.TheVariants.{Common}
use Rattle.phase_board.specs.Slots.{emptied}
use Rattle.phase_board.specs.ClaimWord.{half_of}
use Rattle.phase_board.proofs.Stops.{stops}
use Rattle.phase_board.proofs.board.Board.stop.Goals as goal

pub swap-requires : goal.swap-requires
swap-requires g c =
    let put = c.exchange.ensures in
    let size : c.args.seat.seat.table_id.slots - 1 ≡ c.args.self.now.count = (let a = ap (λ z. z.slots) c.requires.board.0 in let b = c.args.self.now.sized.1 in omega arith) in
    let slots = ap (λ m. m.1) put.3 ∙ ap (λ l. (0, Common c.args.seat.common c.args.seat.pieces) ∷ rest l) (c.args.seat.turns.0 ∙ ap emptied size) in (
      put.0 ∙ c.requires.board.0,
      search rules,
      stops _ _ _ _ _ _ _ _ _ _ c.args.seat.half c.args.self.now.count c.args.seat.common c.args.seat.pieces (ap (λ m. m.0.job) put.3 ∙ c.requires.board.1)
          (ap (λ m. m.0.activity) put.3 ∙ c.args.seat.turns.1) (sym c.args.self.now.sized.1) slots c.requires.pieces
          (c.args.seat.shows ∙ sym (ap (λ m. half_of m.0.loaded) put.3)) (ap (λ (n : ℕ). 2 ^ 63 + n * 256 + c.args.self.now.count) c.from.ensures) c.requires.common,
    )
