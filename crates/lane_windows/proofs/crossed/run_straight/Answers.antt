use Rattle.std.proofs.Common.{◌≡◌, ℕ, ◌≤◌, ℤ, List, length, sym, ap, ◌∙◌, subst, arith}
use Rattle.half_iteration.proofs.Parts.{written}
use Rattle.window_rows.specs.Rows.{AreWithin}
use Rattle.lock_step.specs.Lanes.{AreSoftRows}
use Rattle.lane_banks.proofs.BankCells.{fits-twice}
use Rattle.lane_banks.proofs.BankRows.{width-of_view, banks-of_rows}
use Rattle.lane_windows.proofs.LaneRuns.{KernelRan, straight-run}
use Rattle.lane_windows.proofs.crossed.run_straight.Goals as goal

pub run_rows-requires : goal.run_rows-requires
run_rows-requires g c =
    let n = g.row.N in let b = c.banks.inside in let inv = c.banks.invariant in
    let w = width-of_view n b.values.items b.sums.items c.args.banks.now inv c.banks.view_is in
    let values = c.as_mut_slice-values.result.now in
    let ev : length values ≡ length b.values.items = ap length c.as_mut_slice-values.ensures.value in
    let es : length c.as_mut_slice-sums.result.now ≡ length values = ap length c.as_mut_slice-sums.ensures.value ∙ (inv.sums_long ∙ sym ev) in
    let least : 8 ≤ length values = omega (arith, ev, inv.least) in
    let room : length values ≤ c.args.kernel.now = omega (arith, ev, w, c.requires.room) in
    let soft : AreSoftRows (length values) c.args.soft = subst (λ (k : ℕ). AreSoftRows k c.args.soft) (w ∙ sym ev) c.requires.soft in
    let within : AreWithin n 511 c.as_mut_slice-values.result.now = subst (AreWithin n 511) (sym c.as_mut_slice-values.ensures.value) inv.within in (
      omega arith,
      (
        omega arith,
        (
          fits-twice n inv.lanes,
          (
            inv.lanes,
            (
              least,
              (room, (c.requires.borders, (soft, (within, (es, (c.requires.alpha_out, c.requires.beta_out)))))),
            ),
          ),
        ),
      ),
    )

pub invariant_of-banks : goal.invariant_of-banks
invariant_of-banks g c =
    let n = g.row.N in let b = c.banks.inside in let inv = c.banks.invariant in let run = c.run_rows in
    let lv : length run.new.cells ≡ length b.values.items = run.auto.cells ∙ ap length c.as_mut_slice-values.ensures.value in
    let ls : length run.new.sums ≡ length b.sums.items = run.auto.sums ∙ ap length c.as_mut_slice-sums.ensures.value in
    let ev = written b.values.len run.new.cells b.values.items (lv ∙ sym b.values.ok.0) in
    let es = written b.sums.len run.new.sums b.sums.items (ls ∙ sym b.sums.ok.0) in
    banks-of_rows n b.values.items b.sums.items _ _ inv (ap length ev ∙ lv) (ap length es ∙ (ls ∙ inv.sums_long))
    (subst (AreWithin n 511) (sym ev) run.ensures.within)

pub returns-clause-ran : goal.returns-clause-ran
returns-clause-ran g c =
    let n = g.row.N in let b = c.banks.inside in let inv = c.banks.invariant in let run = c.run_rows in
    let lv : length run.new.cells ≡ length b.values.items = run.auto.cells ∙ ap length c.as_mut_slice-values.ensures.value in
    let ls : length run.new.sums ≡ length b.sums.items = run.auto.sums ∙ ap length c.as_mut_slice-sums.ensures.value in
    let ev = written b.values.len run.new.cells b.values.items (lv ∙ sym b.values.ok.0) in
    let es = written b.sums.len run.new.sums b.sums.items (ls ∙ sym b.sums.ok.0) in
    let ran : KernelRan n c.args.borders c.args.soft b.values.items run.new.cells run.new.sums run.new.alpha_out run.new.beta_out =
    subst (λ (xs : List (List ℤ)). KernelRan n c.args.borders c.args.soft xs run.new.cells run.new.sums run.new.alpha_out run.new.beta_out) c.as_mut_slice-values.ensures.value
    (record { cells = run.ensures.cells; forward = run.ensures.forward; backward = run.ensures.backward }) in
    straight-run n c.args.borders c.args.soft b.values.items b.sums.items c.args.banks.now run.new.alpha_out run.new.beta_out inv c.banks.view_is
    run.new.cells run.new.sums _ _ ev es lv (ls ∙ inv.sums_long) ran
