use Rattle.std.proofs.Common.{◌≡◌, ℕ, ◌/◌, ◌%◌, ◌<◌, length, ℤ, sym, ap, ◌∙◌, subst, arith}
use Rattle.std.proofs.lemmas.Nat.{mod_below}
use Rattle.lte_bits.specs.Softs.{IsWithin}
use Rattle.model_receiver.specs.Borders.{at}
use Rattle.window_rows.specs.Rows.{number_in}
use Rattle.lane_banks.specs.Banks.{cell_of, cell_in}
use Rattle.lane_banks.proofs.BankCells.{fits-twice}
use Rattle.lane_banks.proofs.BankRows.{read-number, cell-at_place, place-bank}
use Rattle.lane_banks.proofs.banks.Banks.at.Goals as goal

pub lane_cell-requires : goal.lane_cell-requires
lane_cell-requires g c =
    let b = c.self.inside in let w : ℕ = c.len-width.result in
    let e : w ≡ length b.values.items = c.len-width.ensures ∙ b.values.ok.0 in
    let lr : c.args.n % w < length b.values.items = omega (arith, e, c.self.invariant.least, mod_below c.args.n w (omega (arith, e, c.self.invariant.least))) in
    let lane : c.args.n / w < g.row.N = subst (λ (w : ℕ). c.args.n / w < g.row.N) (sym e)
    (place-bank g.row.N b.values.items b.sums.items c.args.self.now c.self.invariant c.self.view_is c.args.n c.requires) in
    let within : IsWithin 511 (at c.index-values.result.now (c.args.n / w)) =
    subst (IsWithin 511) (sym (read-number b.values.items (c.args.n % w) (c.args.n / w) c.index-values.result.now lr c.index-values.ensures))
    (c.self.invariant.within (c.args.n % w) (c.args.n / w) lr lane) in
    (fits-twice g.row.N c.self.invariant.lanes, (lane, within))

pub returns : goal.returns
returns g c =
    let b = c.self.inside in let w : ℕ = c.len-width.result in let i = c.args.n in
    let e : w ≡ length b.values.items = c.len-width.ensures ∙ b.values.ok.0 in
    let lr : i % w < length b.values.items = omega (arith, e, c.self.invariant.least, mod_below i w (omega (arith, e, c.self.invariant.least))) in
    c.lane_cell.ensures
    ∙ (ap (λ (x : ℤ). cell_of x (at c.index-sums.result.now (i / w))) (read-number b.values.items (i % w) (i / w) c.index-values.result.now lr c.index-values.ensures)
    ∙ (ap (cell_of (number_in b.values.items (i % w) (i / w))) (read-number b.sums.items (i % w) (i / w) c.index-sums.result.now (omega (arith, c.self.invariant.sums_long, lr)) c.index-sums.ensures)
    ∙ (ap (λ (k : ℕ). cell_in b.values.items b.sums.items (i % k) (i / k)) e
    ∙ cell-at_place g.row.N b.values.items b.sums.items c.args.self.now c.self.invariant c.self.view_is i c.requires)))
