use Rattle.std.proofs.Common.{◌≡◌, ℕ, ◌/◌, ◌<◌, ◌≤◌, ℤ, List, length, take, sym, ap, ◌∙◌, subst, arith}
use Rattle.std.specs.Prelude.{slice_index}
use Rattle.std.proofs.lemmas.List.{length-take-le}
use Rattle.half_iteration.proofs.Parts.{written}
use Rattle.window_rows.specs.Rows.{AreWithin, number_in}
use Rattle.lock_step.specs.Lanes.{AreSoftRows}
use Rattle.lane_banks.specs.Permutations.{bank_at, IsTable, AreApart}
use Rattle.lane_banks.proofs.BankCells.{fits-twice}
use Rattle.lane_banks.proofs.BankRows.{width-of_view, banks-of_rows}
use Rattle.window_rows.proofs.Columns.{within-words}
use Rattle.lane_windows.proofs.LaneRuns.{crossed-run}
use Rattle.lane_windows.proofs.crossed.run_in_room.Goals as goal

-- a table for a width that is the same
table-for : (n : ℕ) (v w : ℕ) (rows : List ℕ) (banks : List (List ℕ)) → v ≡ w → (place : ℕ → ℕ) × IsTable n w place rows banks × AreApart n w place
    → (place : ℕ → ℕ) × IsTable n v place rows banks × AreApart n v place
table-for n v w rows banks e h = (h.0, subst (λ (k : ℕ). IsTable n k h.0 rows banks) (sym e) h.1, subst (λ (k : ℕ). AreApart n k h.0) (sym e) h.2)

pub bring-requires : goal.bring-requires
bring-requires g c =
    let n = g.row.N in let b = c.banks.inside in let inv = c.banks.invariant in let w : ℕ = length c.args.soft.systematic.now in let v : ℕ = length c.args.banks.now / n in
    let room : w ≤ length c.args.values.now = omega (arith, c.requires.values, c.requires.soft.systematic_long) in
    let e : length (take w c.args.values.now) ≡ w = length-take-le w c.args.values.now room in
    let ww = width-of_view n b.values.items b.sums.items c.args.banks.now inv c.banks.view_is in
    let rows : length (take w c.args.values.now) ≤ length c.args.permutations.now.rows.items = omega (arith, e, c.requires.soft.systematic_long, c.requires.permutations.rows) in
    let banks : length (take w c.args.values.now) ≤ length c.args.permutations.now.banks.items = omega (arith, e, c.requires.soft.systematic_long, c.requires.permutations.banks) in
    let full : length c.as_slice.result.now ≡ length (take w c.args.values.now) = ap length c.as_slice.ensures.value ∙ (sym ww ∙ (sym c.requires.soft.systematic_long ∙ sym e)) in
    let table = table-for n (length (take w c.args.values.now)) v c.args.permutations.now.rows.items c.args.permutations.now.banks.items
    (e ∙ c.requires.soft.systematic_long) c.requires.permutations.table in
    let within : AreWithin n 32767 c.as_slice.result.now = subst (AreWithin n 32767) (sym c.as_slice.ensures.value) (within-words n b.values.items inv.within) in
    (omega arith, (fits-twice n inv.lanes, (inv.lanes, (rows, (banks, (full, (within, (table.0, table.1))))))))

pub run_rows-requires : goal.run_rows-requires
run_rows-requires g c =
    let n = g.row.N in let b = c.banks.inside in let inv = c.banks.invariant in let w : ℕ = length c.args.soft.systematic.now in let v : ℕ = length c.args.banks.now / n in
    let ww = width-of_view n b.values.items b.sums.items c.args.banks.now inv c.banks.view_is in
    let room : w ≤ length c.args.values.now = omega (arith, c.requires.values, c.requires.soft.systematic_long) in
    let room2 : w ≤ length c.args.sums.now = omega (arith, c.requires.sums, c.requires.soft.systematic_long) in
    let values : length c.bring.new.to ≡ w = c.bring.auto.to ∙ length-take-le w c.args.values.now room in
    let sums : length (take w c.args.sums.now) ≡ w = length-take-le w c.args.sums.now room2 in
    let least : 8 ≤ length c.bring.new.to = omega (arith, values, ww, c.requires.soft.systematic_long, inv.least) in
    let fits : length c.bring.new.to ≤ c.args.kernel.now = omega (arith, values, c.requires.soft.systematic_long, c.requires.room) in
    let soft : AreSoftRows (length c.bring.new.to) c.args.soft = subst (λ (k : ℕ). AreSoftRows k c.args.soft) (sym c.requires.soft.systematic_long ∙ sym values) c.requires.soft in
    let within : AreWithin n 511 c.bring.new.to = c.bring.ensures.kept 511 (subst (AreWithin n 511) (sym c.as_slice.ensures.value) inv.within) in (
      omega arith,
      (
        omega arith,
        (
          fits-twice n inv.lanes,
          (
            inv.lanes,
            (
              least,
              (fits, (c.requires.borders, (soft, (within, (sums ∙ sym values, (c.requires.alpha_out, c.requires.beta_out)))))),
            ),
          ),
        ),
      ),
    )

pub put_back-requires : goal.put_back-requires
put_back-requires g c =
    let n = g.row.N in let b = c.banks.inside in let inv = c.banks.invariant in let w : ℕ = length c.args.soft.systematic.now in let v : ℕ = length c.args.banks.now / n in
    let ww = width-of_view n b.values.items b.sums.items c.args.banks.now inv c.banks.view_is in
    let room : w ≤ length c.args.values.now = omega (arith, c.requires.values, c.requires.soft.systematic_long) in
    let e : length c.run_rows.new.cells ≡ w = c.run_rows.auto.cells ∙ (c.bring.auto.to ∙ length-take-le w c.args.values.now room) in
    let rows : length c.run_rows.new.cells ≤ length c.args.permutations.now.rows.items = omega (arith, e, c.requires.soft.systematic_long, c.requires.permutations.rows) in
    let banks : length c.run_rows.new.cells ≤ length c.args.permutations.now.banks.items = omega (arith, e, c.requires.soft.systematic_long, c.requires.permutations.banks) in
    let full : length c.as_mut_slice.result.now ≡ length c.run_rows.new.cells = ap length c.as_mut_slice.ensures.value ∙ (sym ww ∙ (sym c.requires.soft.systematic_long ∙ sym e)) in
    let within : AreWithin n 32767 c.run_rows.new.cells = within-words n c.run_rows.new.cells c.run_rows.ensures.within in (
      omega arith,
      (
        fits-twice n inv.lanes,
        (
          inv.lanes,
          (
            rows,
            (
              banks,
              (
                full,
                (
                  within,
                  table-for n (length c.run_rows.new.cells) v c.args.permutations.now.rows.items c.args.permutations.now.banks.items
                      (e ∙ c.requires.soft.systematic_long) c.requires.permutations.table,
                ),
              ),
            ),
          ),
        ),
      ),
    )

pub put_back-requires-2 : goal.put_back-requires-2
put_back-requires-2 g c =
    let n = g.row.N in let b = c.banks.inside in let inv = c.banks.invariant in let w : ℕ = length c.args.soft.systematic.now in let v : ℕ = length c.args.banks.now / n in
    let ww = width-of_view n b.values.items b.sums.items c.args.banks.now inv c.banks.view_is in
    let room : w ≤ length c.args.sums.now = omega (arith, c.requires.sums, c.requires.soft.systematic_long) in
    let e : length c.run_rows.new.sums ≡ w = c.run_rows.auto.sums ∙ length-take-le w c.args.sums.now room in
    let rows : length c.run_rows.new.sums ≤ length c.args.permutations.now.rows.items = omega (arith, e, c.requires.soft.systematic_long, c.requires.permutations.rows) in
    let banks : length c.run_rows.new.sums ≤ length c.args.permutations.now.banks.items = omega (arith, e, c.requires.soft.systematic_long, c.requires.permutations.banks) in
    let full : length c.as_mut_slice-2.result.now ≡ length c.run_rows.new.sums = ap length c.as_mut_slice-2.ensures.value
    ∙ (inv.sums_long ∙ (sym ww ∙ (sym c.requires.soft.systematic_long ∙ sym e))) in (
      omega arith,
      (
        fits-twice n inv.lanes,
        (
          inv.lanes,
          (
            rows,
            (
              banks,
              (
                full,
                (
                  c.run_rows.ensures.sums,
                  table-for n (length c.run_rows.new.sums) v c.args.permutations.now.rows.items c.args.permutations.now.banks.items
                      (e ∙ c.requires.soft.systematic_long) c.requires.permutations.table,
                ),
              ),
            ),
          ),
        ),
      ),
    )

pub invariant_of-banks : goal.invariant_of-banks
invariant_of-banks g c =
    let n = g.row.N in let b = c.banks.inside in let inv = c.banks.invariant in
    let lv : length c.put_back.new.to ≡ length b.values.items = c.put_back.auto.to ∙ ap length c.as_mut_slice.ensures.value in
    let ls : length c.put_back-2.new.to ≡ length b.sums.items = c.put_back-2.auto.to ∙ ap length c.as_mut_slice-2.ensures.value in
    let ev = written b.values.len c.put_back.new.to b.values.items (lv ∙ sym b.values.ok.0) in
    let es = written b.sums.len c.put_back-2.new.to b.sums.items (ls ∙ sym b.sums.ok.0) in
    let within : AreWithin n 511 c.put_back.new.to = c.put_back.ensures.kept 511 c.run_rows.ensures.within (subst (AreWithin n 511) (sym c.as_mut_slice.ensures.value) inv.within) in
    banks-of_rows n b.values.items b.sums.items _ _ inv (ap length ev ∙ lv) (ap length es ∙ (ls ∙ inv.sums_long)) (subst (AreWithin n 511) (sym ev) within)

pub returns-clause-ran : goal.returns-clause-ran
returns-clause-ran g c = λ place table.
    let n = g.row.N in let b = c.banks.inside in let inv = c.banks.invariant in let w : ℕ = length c.args.soft.systematic.now in let v : ℕ = length c.args.banks.now / n in
    let run = c.run_rows in
    let rs = c.args.permutations.now.rows.items in let bs = c.args.permutations.now.banks.items in
    let ww = width-of_view n b.values.items b.sums.items c.args.banks.now inv c.banks.view_is in
    let ew : w ≡ length b.values.items = c.requires.soft.systematic_long ∙ ww in
    let room : w ≤ length c.args.values.now = omega (arith, c.requires.values, c.requires.soft.systematic_long) in
    let room2 : w ≤ length c.args.sums.now = omega (arith, c.requires.sums, c.requires.soft.systematic_long) in
    let e1 : length (take w c.args.values.now) ≡ w = length-take-le w c.args.values.now room in
    let lr : length c.bring.new.to ≡ w = c.bring.auto.to ∙ e1 in
    let lc : length run.new.cells ≡ w = run.auto.cells ∙ lr in
    let lu : length run.new.sums ≡ w = run.auto.sums ∙ length-take-le w c.args.sums.now room2 in
    let lv : length c.put_back.new.to ≡ length b.values.items = c.put_back.auto.to ∙ ap length c.as_mut_slice.ensures.value in
    let ls : length c.put_back-2.new.to ≡ length b.sums.items = c.put_back-2.auto.to ∙ ap length c.as_mut_slice-2.ensures.value in
    let ev = written b.values.len c.put_back.new.to b.values.items (lv ∙ sym b.values.ok.0) in
    let es = written b.sums.len c.put_back-2.new.to b.sums.items (ls ∙ sym b.sums.ok.0) in
    let brought : (j t : ℕ) → j < length b.values.items → t < n → number_in c.bring.new.to j t ≡ number_in b.values.items (slice_index rs j) (bank_at bs j t) =
    λ j t lj lt. c.bring.ensures.brought j t (omega (arith, lj, ew, e1)) lt ∙ ap (λ (xs : List (List ℤ)). number_in xs (slice_index rs j) (bank_at bs j t)) c.as_slice.ensures.value in
    crossed-run n c.args.borders c.args.soft b.values.items b.sums.items c.args.banks.now run.new.alpha_out run.new.beta_out inv c.banks.view_is
    place rs bs c.bring.new.to run.new.cells run.new.sums _ _
    (subst (λ (k : ℕ). IsTable n k place rs bs) ww table) (lr ∙ ew) (lc ∙ ew) (lu ∙ ew) (ap length ev ∙ lv) brought
    (λ j t lj lt. ap (λ (xs : List (List ℤ)). number_in xs (slice_index rs j) (bank_at bs j t)) ev ∙ c.put_back.ensures.put j t (omega (arith, lj, ew, lc)) lt)
    (λ j t lj lt. ap (λ (xs : List (List ℤ)). number_in xs (slice_index rs j) (bank_at bs j t)) es ∙ c.put_back-2.ensures.put j t (omega (arith, lj, ew, lu)) lt)
    (record { cells = run.ensures.cells; forward = run.ensures.forward; backward = run.ensures.backward })
