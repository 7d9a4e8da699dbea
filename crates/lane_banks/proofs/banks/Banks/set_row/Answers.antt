use Rattle.std.proofs.Common.{◌∙◌, arith}
use Rattle.model_receiver.specs.Borders.{at}
use Rattle.model_receiver.specs.Windows.{cell_at}
use Rattle.lane_banks.proofs.BankRows.{same-cell, width-of_view, length-replaced, cell-replaced, cell-kept}
use Rattle.lane_banks.proofs.banks.Banks.set_row.Goals as goal

pub index_mut-requires : goal.index_mut-requires
index_mut-requires g c =
    let b = c.self.inside in
    let w = width-of_view g.row.N b.values.items b.sums.items c.args.self.now c.self.invariant c.self.view_is in
    omega (arith, w, c.requires, b.values.ok.0)

pub index_mut-requires-2 : goal.index_mut-requires-2
index_mut-requires-2 g c =
    let b = c.self.inside in
    let w = width-of_view g.row.N b.values.items b.sums.items c.args.self.now c.self.invariant c.self.view_is in
    omega (arith, w, c.requires, b.sums.ok.0, c.self.invariant.sums_long)

pub returns-clause-long : goal.returns-clause-long
returns-clause-long g c =
    let b = c.self.inside in
    let w = width-of_view g.row.N b.values.items b.sums.items c.args.self.now c.self.invariant c.self.view_is in
    length-replaced g.row.N b.values.items b.sums.items c.args.self.now c.self.invariant c.self.view_is c.args.r c.split.new.values c.split.new.sums (omega (arith, w, c.requires))

pub returns-clause-row : goal.returns-clause-row
returns-clause-row g c = λ k lk.
    let b = c.self.inside in
    let w = width-of_view g.row.N b.values.items b.sums.items c.args.self.now c.self.invariant c.self.view_is in
    cell-replaced g.row.N b.values.items b.sums.items c.args.self.now c.self.invariant c.self.view_is c.args.r c.split.new.values c.split.new.sums (omega (arith, w, c.requires)) k lk
    ∙ same-cell (at c.split.new.values k) (at c.split.new.sums k) (cell_at c.args.row k) (c.split.ensures.value k lk) (c.split.ensures.sum k lk)

pub returns-clause-others : goal.returns-clause-others
returns-clause-others g c = λ i ne.
    let b = c.self.inside in
    let w = width-of_view g.row.N b.values.items b.sums.items c.args.self.now c.self.invariant c.self.view_is in
    cell-kept g.row.N b.values.items b.sums.items c.args.self.now c.self.invariant c.self.view_is c.args.r c.split.new.values c.split.new.sums (omega (arith, w, c.requires)) i ne
