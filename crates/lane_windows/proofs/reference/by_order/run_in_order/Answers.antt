use Rattle.std.proofs.Common.{ℕ, ◌*◌, ◌/◌, length, sym, subst, arith}
use Rattle.cell_shares.specs.declared.order.Order.{Order}
use Rattle.cell_shares.specs.Orders.{place_in, IsOrderOf}
use Rattle.lane_windows.specs.Lanes.{HaveRun, LeadApart}
use Rattle.lane_banks.specs.Permutations.{IsTable}
use Rattle.lane_banks.proofs.PermutationLaws.{order-apart}
use Rattle.lane_windows.proofs.reference.by_order.run_in_order.Goals as goal

pub follow-requires : goal.follow-requires
follow-requires g c =
    let n = g.row.N in let r = c.requires in let e = r.soft.systematic_long in (
      omega arith,
      (
        r.lanes,
        (
          subst (λ (k : ℕ). IsOrderOf (n * k) c.args.order.now) (sym e) r.order,
          (omega (arith, e, r.least), (omega (arith, e, r.most), (omega (arith, e, r.rows), omega (arith, e, r.banks)))),
        ),
      ),
    )

pub run_crossed-requires : goal.run_crossed-requires
run_crossed-requires g c =
    let n = g.row.N in let r = c.requires in let w : ℕ = length c.args.banks.now / n in let f = c.follow.ensures in
    let apart : LeadApart w c.follow.new.permutations = record {
      rows = omega (arith, f.rows, r.rows);
      banks = omega (arith, f.banks, r.banks);
      table = (
        place_in c.args.order.now,
        subst (λ (k : ℕ). IsTable n k (place_in c.args.order.now) c.follow.new.permutations.rows.items c.follow.new.permutations.banks.items) r.soft.systematic_long f.table,
        order-apart c.args.order.now n w r.order,
      );
    } in
    (omega arith, (omega arith, (omega arith, (omega arith, (r.room, (apart, (r.borders, (r.soft, (r.alpha_out, r.beta_out)))))))))

pub returns-in-Natural-clause-ran : goal.returns-in-Natural-clause-ran
returns-in-Natural-clause-ran g c =
    let n = g.row.N in let run = c.run_straight in
    subst (λ (o : Order). HaveRun (length c.args.banks.now / n) (place_in o) c.args.borders c.args.soft c.args.banks.now run.new.banks run.new.alpha_out run.new.beta_out)
    (sym c.in-Natural.is) run.ensures.ran

pub returns-in-Interleaved-clause-ran : goal.returns-in-Interleaved-clause-ran
returns-in-Interleaved-clause-ran g c =
    let n = g.row.N in let x = c.follow.new.permutations in
    c.run_crossed.ensures.ran (place_in c.args.order.now) (subst (λ (k : ℕ). IsTable n k (place_in c.args.order.now) x.rows.items x.banks.items) c.requires.soft.systematic_long c.follow.ensures.table)
