use Rattle.std.proofs.Common.{◌≡◌, ℕ, ℤ, ◌*◌, ◌/◌, ◌<◌, ◌≤◌, List, length, take, sym, ap, ◌∙◌, subst, arith}
use Rattle.std.proofs.lemmas.List.{length-take-le}
use Rattle.model_receiver.specs.Windows.{window_between, new_cells, forward_left, backward_left}
use Rattle.cell_shares.specs.Orders.{place_in, IsOrderOf}
use Rattle.half_iteration.proofs.Parts.{written}
use Rattle.window_rows.specs.Rows.{column, AreWithin, values_of_window}
use Rattle.lock_step.specs.Lanes.{border_at}
use Rattle.lane_windows.specs.Lanes.{cells_of_window, window_of}
use Rattle.lane_banks.proofs.BankCells.{fits-twice}
use Rattle.lane_windows.proofs.LaneRuns.{by-position}
use Rattle.lane_windows.proofs.reference.by_order.run_lock_step.Given.{Over}
use Rattle.lane_windows.proofs.reference.by_order.run_lock_step.Goals as goal

pub lay_front-requires : goal.lay_front-requires
lay_front-requires g c =
    let n = g.row.N in let x = c.width-width.ensures in
    let room : c.width-width.result ≤ length c.as_mut_slice.result.now = omega (arith, ap length c.as_mut_slice.ensures.value, c.work.invariant.0, c.work.view_is, c.requires.room, x.value) in
    (fits-twice n x.lanes, (x.whole ∙ sym c.requires.systematic, room))

pub lay_front-requires-2 : goal.lay_front-requires-2
lay_front-requires-2 g c =
    let n = g.row.N in let x = c.width-width.ensures in
    let room : c.width-width.result ≤ length c.as_mut_slice-2.result.now = omega (arith, ap length c.as_mut_slice-2.ensures.value, c.work.invariant.1, c.work.view_is, c.requires.room, x.value) in
    (fits-twice n x.lanes, (x.whole ∙ sym c.requires.parity, room))

pub run_in_order-requires : goal.run_in_order-requires
run_in_order-requires g c =
    let n = g.row.N in let x = c.width-width.ensures in let r = c.requires in let b = c.work.inside in
    let w : ℕ = c.width-width.result in
    let ls : length c.lay_front.new.rows ≡ length b.systematic.items = c.lay_front.auto.rows ∙ ap length c.as_mut_slice.ensures.value in
    let lp : length c.lay_front-2.new.rows ≡ length b.parity.items = c.lay_front-2.auto.rows ∙ ap length c.as_mut_slice-2.ensures.value in
    let es : c.as_slice.result.now ≡ c.lay_front.new.rows = c.as_slice.ensures.value ∙ written b.systematic.len c.lay_front.new.rows b.systematic.items (ls ∙ sym b.systematic.ok.0) in
    let ep : c.as_slice-2.result.now ≡ c.lay_front-2.new.rows = c.as_slice-2.ensures.value ∙ written b.parity.len c.lay_front-2.new.rows b.parity.items (lp ∙ sym b.parity.ok.0) in
    let room : w ≤ b.scratch.kernel = omega (arith, c.work.view_is, r.room, x.value) in
    let ws : length (take w c.as_slice.result.now) ≡ w = length-take-le w c.as_slice.result.now (omega (arith, ap length es, ls, c.work.invariant.0, room)) in
    let wp : length (take w c.as_slice-2.result.now) ≡ w = length-take-le w c.as_slice-2.result.now (omega (arith, ap length ep, lp, c.work.invariant.1, room)) in
    let v : ℕ = length c.args.banks.now / n in
    let order : IsOrderOf (n * v) c.args.order.now = subst (λ (k : ℕ). IsOrderOf k c.args.order.now) (sym (ap (λ (k : ℕ). n * k) (sym x.value) ∙ x.whole)) r.order in
    let rows : v ≤ length b.permutations.rows.items = omega (arith, x.value, room, c.work.invariant.2) in
    let banks : v ≤ length b.permutations.banks.items = omega (arith, x.value, room, c.work.invariant.3) in (
      omega arith,
      (
        omega arith,
        (
          omega arith,
          (
            omega arith,
            (
              x.lanes,
              (
                order,
                (
                  omega (arith, x.value, x.least),
                  (
                    omega (arith, x.value, x.most),
                    (
                      omega (arith, x.value, room),
                      (
                        record { alpha = r.alpha_in; beta = r.beta_in },
                        (
                          record {
                            systematic_long = ws ∙ x.value;
                            parity_long = wp ∙ x.value;
                            systematic = subst (λ (xs : List (List ℤ)). AreWithin n 127 (take w xs)) (sym es) c.lay_front.ensures.within;
                            parity = subst (λ (xs : List (List ℤ)). AreWithin n 127 (take w xs)) (sym ep) c.lay_front-2.ensures.within;
                          },
                          (r.alpha_out, (r.beta_out, (rows, banks))),
                        ),
                      ),
                    ),
                  ),
                ),
              ),
            ),
          ),
        ),
      ),
    )

pub invariant_of-work : goal.invariant_of-work
invariant_of-work g c =
    let b = c.work.inside in let inv = c.work.invariant in let run = c.run_in_order.ensures in
    let ls : length c.lay_front.new.rows ≡ length b.systematic.items = c.lay_front.auto.rows ∙ ap length c.as_mut_slice.ensures.value in
    let lp : length c.lay_front-2.new.rows ≡ length b.parity.items = c.lay_front-2.auto.rows ∙ ap length c.as_mut_slice-2.ensures.value in (
      ap length (written b.systematic.len c.lay_front.new.rows b.systematic.items (ls ∙ sym b.systematic.ok.0)) ∙ (ls ∙ (inv.0 ∙ sym run.room)),
      ap length (written b.parity.len c.lay_front-2.new.rows b.parity.items (lp ∙ sym b.parity.ok.0)) ∙ (lp ∙ (inv.1 ∙ sym run.room)),
      run.rows ∙ (inv.2 ∙ sym run.room),
      run.banks ∙ (inv.3 ∙ sym run.room),
    )

-- the columns of what was laid out
laid : (v w t : ℕ) (rows all : List (List ℤ)) (values : List ℤ) → v ≡ w → all ≡ rows → column t (take v rows) ≡ values_of_window v values t
    → column t (take v all) ≡ values_of_window w values t
laid v w t rows all values ew e h = ap (λ (xs : List (List ℤ)). column t (take v xs)) e ∙ (h ∙ ap (λ (k : ℕ). values_of_window k values t) ew)

same-window : (g : Over) (c : goal.After-beta_out-1 g) (t : ℕ) → t < g.row.N
    → window_between (border_at c.args.alpha_in.now t) (border_at c.args.beta_in.now t)
    (column t (take c.width-width.result c.as_slice.result.now)) (column t (take c.width-width.result c.as_slice-2.result.now))
    (cells_of_window (length c.args.banks.now / g.row.N) (place_in c.args.order.now) c.args.banks.now t)
    ≡ window_of (length c.args.banks.now / g.row.N) (place_in c.args.order.now) c.args.alpha_in.now c.args.beta_in.now c.args.sys.now c.args.par.now c.args.banks.now t
same-window g c t lt =
    let n = g.row.N in let b = c.work.inside in let w : ℕ = c.width-width.result in let v : ℕ = length c.args.banks.now / n in
    let ls : length c.lay_front.new.rows ≡ length b.systematic.items = c.lay_front.auto.rows ∙ ap length c.as_mut_slice.ensures.value in
    let lp : length c.lay_front-2.new.rows ≡ length b.parity.items = c.lay_front-2.auto.rows ∙ ap length c.as_mut_slice-2.ensures.value in
    let es : c.as_slice.result.now ≡ c.lay_front.new.rows = c.as_slice.ensures.value ∙ written b.systematic.len c.lay_front.new.rows b.systematic.items (ls ∙ sym b.systematic.ok.0) in
    let ep : c.as_slice-2.result.now ≡ c.lay_front-2.new.rows = c.as_slice-2.ensures.value ∙ written b.parity.len c.lay_front-2.new.rows b.parity.items (lp ∙ sym b.parity.ok.0) in
    by-position v (place_in c.args.order.now) c.args.alpha_in.now c.args.beta_in.now (take w c.as_slice.result.now) (take w c.as_slice-2.result.now) c.args.sys.now c.args.par.now c.args.banks.now t
    (laid w v t c.lay_front.new.rows c.as_slice.result.now c.args.sys.now c.width-width.ensures.value es (c.lay_front.ensures.columns t lt))
    (laid w v t c.lay_front-2.new.rows c.as_slice-2.result.now c.args.par.now c.width-width.ensures.value ep (c.lay_front-2.ensures.columns t lt))

pub returns-clause-cells : goal.returns-clause-cells
returns-clause-cells g c = λ t lt. c.run_in_order.ensures.ran.cells t lt ∙ ap new_cells (same-window g c t lt)

pub returns-clause-forward : goal.returns-clause-forward
returns-clause-forward g c = λ t lt. c.run_in_order.ensures.ran.forward t lt ∙ ap forward_left (same-window g c t lt)

pub returns-clause-backward : goal.returns-clause-backward
returns-clause-backward g c = λ t lt. c.run_in_order.ensures.ran.backward t lt ∙ ap backward_left (same-window g c t lt)
