use Rattle.std.proofs.Common.{ℕ, ◌<◌, ap, subst}
use Rattle.cell_shares.proofs.Numbers.{values-long}
use Rattle.cell_shares.proofs.Positions.{cell_at}
use Rattle.cell_shares.proofs.cells.Cells.tell_apart.Goals as goal

pub tell_apart-requires : goal.tell_apart-requires
tell_apart-requires g c =
    let one = c.args.self.now in let other = c.args.other.now in (
      (cell_at one 0 (subst (λ (n : ℕ). 0 < n) (values-long 0 one.count one.part.cells one.numbered) one.some_cell)).1,
      (cell_at other 0 (subst (λ (n : ℕ). 0 < n) (values-long 0 other.count other.part.cells other.numbered) other.some_cell)).1,
    )

pub returns-clause-names : goal.returns-clause-names
returns-clause-names g c = λ sized same. c.tell_apart.ensures.2 sized (ap (λ n. n.start) same)
