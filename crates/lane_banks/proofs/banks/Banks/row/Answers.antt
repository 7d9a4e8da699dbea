use Rattle.std.proofs.Common.{◌+◌, ◌*◌, ◌/◌, ◌<◌, length, ℤ, sym, ap, ◌∙◌, subst, arith}
use Rattle.std.proofs.lemmas.List.FromFn.{fill_by_all}
use Rattle.lte_bits.specs.Softs.{IsWithin}
use Rattle.model_receiver.specs.Borders.{at}
use Rattle.model_receiver.specs.Windows.{zero_cell, cell_at}
use Rattle.window_rows.specs.Rows.{number_in}
use Rattle.lane_banks.specs.Banks.{cell_of}
use Rattle.lane_banks.proofs.BankCells.{fits-twice}
use Rattle.lane_banks.proofs.BankRows.{read-number, cell-of_view, width-of_view}
use Rattle.lane_banks.proofs.banks.Banks.row.Goals as goal

pub index-values-requires : goal.index-values-requires
index-values-requires g c =
    let b = c.self.inside in
    let w = width-of_view g.row.N b.values.items b.sums.items c.args.self.now c.self.invariant c.self.view_is in
    omega (arith, w, c.requires, b.values.ok.0)

pub index-sums-requires : goal.index-sums-requires
index-sums-requires g c =
    let b = c.self.inside in
    let w = width-of_view g.row.N b.values.items b.sums.items c.args.self.now c.self.invariant c.self.view_is in
    omega (arith, w, c.requires, b.sums.ok.0, c.self.invariant.sums_long)

pub lane_cell-requires : goal.lane_cell-requires
lane_cell-requires g c =
    let b = c.self.inside in
    let w = width-of_view g.row.N b.values.items b.sums.items c.args.self.now c.self.invariant c.self.view_is in
    let h : IsWithin 511 (at c.index-values.result.now c.loop-b.b) =
    subst (IsWithin 511) (sym (read-number b.values.items c.args.r c.loop-b.b c.index-values.result.now (omega (arith, w, c.requires)) c.index-values.ensures))
    (c.self.invariant.within c.args.r c.loop-b.b (omega (arith, w, c.requires)) (omega (arith, c.loop-b-test.true))) in
    (fits-twice g.row.N c.self.invariant.lanes, ((let lane : c.loop-b.b < g.row.N = omega (arith, c.loop-b-test.true) in lane), h))

pub returns : goal.returns
returns g c =
    let n = g.row.N in let b = c.self.inside in let inv = c.self.invariant in
    let w = width-of_view n b.values.items b.sums.items c.args.self.now inv c.self.view_is in
    let lr : c.args.r < length b.values.items = omega (arith, w, c.requires) in
    fill_by_all (λ k. cell_at c.args.self.now (k * (length c.args.self.now / n) + c.args.r)) c.loop-b.row n zero_cell c.loop-b.invariant.long
    (λ k lk.
    c.loop-b.invariant.done k (omega (arith, c.loop-b-test.false, lk))
    ∙ (ap (λ (x : ℤ). cell_of x (at c.index-sums.result.now k)) (read-number b.values.items c.args.r k c.index-values.result.now lr c.index-values.ensures)
    ∙ (ap (cell_of (number_in b.values.items c.args.r k)) (read-number b.sums.items c.args.r k c.index-sums.result.now (omega (arith, inv.sums_long, lr)) c.index-sums.ensures)
    ∙ cell-of_view n b.values.items b.sums.items c.args.self.now inv c.self.view_is k c.args.r lk lr)))
