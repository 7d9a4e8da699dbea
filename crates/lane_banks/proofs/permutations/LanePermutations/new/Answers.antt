use Rattle.std.proofs.Common.{length, sym, ap, ◌∙◌, arith}
use Rattle.lane_banks.proofs.BankCells.{lanes-least, lanes-few}
use Rattle.lane_banks.proofs.Inverses.{zeros-inverse}
use Rattle.lane_banks.proofs.permutations.LanePermutations.new.Goals as goal

pub zero_banks-requires : goal.zero_banks-requires
zero_banks-requires g c = omega (arith, lanes-few g.row.N c.requires.lanes)

pub zero_banks-requires-2 : goal.zero_banks-requires-2
zero_banks-requires-2 g c = omega (arith, lanes-few g.row.N c.requires.lanes)

pub invariant_of-result : goal.invariant_of-result
invariant_of-result g c =
    let b = c.in_ok-banks in let v = c.in_ok-windows in
    record {
      long = ap length v.ensures ∙ sym (ap length b.ensures);
      inverses = zeros-inverse g.row.N c.args.width b.banks.items v.windows.items (lanes-least g.row.N c.requires.lanes) b.ensures v.ensures;
    }
