use Rattle.std.proofs.Common.{◌+◌, ◌<◌, length, refl, ap, ◌∙◌, arith}
use Rattle.std.proofs.lemmas.List.{length-set}
use Rattle.cell_shares.specs.Orders.{place_in}
use Rattle.lane_banks.proofs.BankCells.{fits-once}
use Rattle.lane_banks.proofs.PermutationSteps.{same_table, no-table, whole-table, table-more}
use Rattle.lane_banks.proofs.reference.steps.follow.Goals as goal

pub loop-j-init : goal.loop-j-init
loop-j-init g c =
    record { rows = refl; banks = refl; table = no-table g.row.N c.args.width (place_in c.args.order.now) c.args.permutations.now.rows.items c.args.permutations.now.banks.items }

pub crossbar-row-requires : goal.crossbar-row-requires
crossbar-row-requires g c =
    (fits-once g.row.N c.requires.lanes, (c.requires.lanes, (c.requires.order, (c.requires.least, (c.requires.most, c.loop-j-test.true)))))

pub set-requires : goal.set-requires
set-requires g c =
    let l = c.loop-j in let inv = l.invariant in
    let lr : l.j < length l.permutations.rows.items = omega (arith, c.loop-j-test.true, inv.rows, c.requires.rows) in
    let lb : l.j < length l.permutations.banks.items = omega (arith, c.loop-j-test.true, inv.banks, c.requires.banks) in
    (omega arith, (fits-once g.row.N c.requires.lanes, (c.requires.lanes, (lr, lb))))

pub loop-j-preserved : goal.loop-j-preserved
loop-j-preserved g c =
    let n = g.row.N in let l = c.loop-j in let inv = l.invariant in let x = c.crossbar-row in
    let lr : l.j < length l.permutations.rows.items = omega (arith, c.loop-j-test.true, inv.rows, c.requires.rows) in
    let lb : l.j < length l.permutations.banks.items = omega (arith, c.loop-j-test.true, inv.banks, c.requires.banks) in
    record {
      rows = ap length c.set.ensures.rows ∙ (length-set l.permutations.rows.items l.j x.result.0 ∙ inv.rows);
      banks = ap length c.set.ensures.banks ∙ (length-set l.permutations.banks.items l.j x.result.1 ∙ inv.banks);
      table = same_table n c.args.width (l.j + 1) (place_in c.args.order.now) c.set.ensures.rows c.set.ensures.banks
          (table-more n c.args.width l.j (place_in c.args.order.now) l.permutations.rows.items l.permutations.banks.items x.result.0 x.result.1 lr lb inv.table
          x.ensures.row_below (λ t lt. x.ensures.once.below t lt) (λ t lt. x.ensures.place t lt));
    }

pub returns-clause-table : goal.returns-clause-table
returns-clause-table g c =
    let l = c.loop-j in
    whole-table g.row.N c.args.width l.j (place_in c.args.order.now) l.permutations.rows.items l.permutations.banks.items c.loop-j-test.false l.invariant.table
