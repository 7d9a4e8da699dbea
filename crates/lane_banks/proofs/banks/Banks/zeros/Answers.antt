use Rattle.std.proofs.Common.{◌≡◌, length, pos, replicate, sym, ap, ◌∙◌, arith}
use Rattle.std.proofs.lemmas.List.{length-replicate}
use Rattle.lane_banks.proofs.BankCells.{zero-within, zero-cells, lanes-few}
use Rattle.lane_banks.proofs.banks.Banks.zeros.Goals as goal

pub zero_rows-requires : goal.zero_rows-requires
zero_rows-requires g c = omega (arith, lanes-few g.row.N c.requires.lanes)

pub zero_rows-requires-2 : goal.zero_rows-requires-2
zero_rows-requires-2 g c = omega (arith, lanes-few g.row.N c.requires.lanes)

pub invariant_of-result : goal.invariant_of-result
invariant_of-result g c =
    let n = g.row.N in let w = c.args.width in
    let values : length c.in_ok-values.values.items ≡ w = ap length c.in_ok-values.ensures ∙ length-replicate w (replicate n (pos 0)) in
    let sums : length c.in_ok-sums.sums.items ≡ w = ap length c.in_ok-sums.ensures ∙ length-replicate w (replicate n (pos 0)) in
    record {
      lanes = c.requires.lanes;
      sums_long = sums ∙ sym values;
      least = omega (arith, values, c.requires.least);
      most = omega (arith, values, c.requires.most);
      within = zero-within n w c.in_ok-values.values.items c.in_ok-values.ensures;
    }

pub returns : goal.returns
returns g c = zero-cells g.row.N c.args.width c.in_ok-values.values.items c.in_ok-sums.sums.items c.in_ok-values.ensures c.in_ok-sums.ensures
