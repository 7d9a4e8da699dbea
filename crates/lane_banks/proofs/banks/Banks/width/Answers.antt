use Rattle.std.proofs.Common.{◌≡◌, ℕ, ◌*◌, length, sym, ap, ◌∙◌}
use Rattle.lane_banks.proofs.BankCells.{length-by_place, rows-of_product, lanes-some}
use Rattle.lane_banks.proofs.banks.Banks.width.Goals as goal

pub returns-clause-value : goal.returns-clause-value
returns-clause-value g c =
    let n = g.row.N in let b = c.self.inside in
    let long : length c.args.self.now ≡ n * length b.values.items = ap length (sym c.self.view_is) ∙ length-by_place n (length b.values.items) b.values.items b.sums.items in
    c.len.ensures ∙ (b.values.ok.0 ∙ sym (rows-of_product n (length b.values.items) (length c.args.self.now) (lanes-some n c.self.invariant.lanes) long))

pub returns-clause-whole : goal.returns-clause-whole
returns-clause-whole g c =
    let n = g.row.N in let b = c.self.inside in
    let long : length c.args.self.now ≡ n * length b.values.items = ap length (sym c.self.view_is) ∙ length-by_place n (length b.values.items) b.values.items b.sums.items in
    ap (λ (w : ℕ). n * w) (c.len.ensures ∙ b.values.ok.0) ∙ sym long
