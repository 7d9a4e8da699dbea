use Rattle.std.proofs.Common.{◌≡◌, ℕ, suc, ◌<◌, ◌+◌, ◌-◌, List, [], length, ℤ, ◌+ℤ◌, refl, sym, ap, ◌∙◌, subst, arith, rules}
use Rattle.std.proofs.lemmas.List.{length-set, length-map}
use Rattle.model_receiver.specs.Borders.{at}
use Rattle.model_receiver.specs.Paths.{Window}
use Rattle.model_receiver.specs.Windows.{new_cell}
use Rattle.window_decode.specs.Recursions.{cell_through}
use Rattle.window_decode.proofs.WindowSteps.{cell-best, backward_first, backward-row}
use Rattle.window_decode.proofs.WindowSweep.{backward_at}
use Rattle.window_rows.specs.Rows.{row_at, column}
use Rattle.lock_step.specs.Lanes.{lane_window}
use Rattle.lock_step.specs.Vectors.{AreRelative, lane_gain, metrics_at}
use Rattle.lock_step.proofs.StateRows.{at-column}
use Rattle.lock_step.proofs.Sweeps.{lane-soft, lane-earns, row-read, metrics-read, read-small, kept-more, small-more, renewed-more, cell-set, decided-all, width-column}
use Rattle.lock_step.proofs.Bounds.{backward-relative}
use Rattle.lock_step.proofs.rows.sweep_backward.Goals as goal

pub loop-i-init : goal.loop-i-init
loop-i-init g c =
    let n : ℕ = length c.args.sys.now in
    record {
      shape = c.requires.end.shape;
      row = λ t lt. backward_at _ _ n (n - 0) 0 0 _ (omega arith) refl (backward_first (column t c.args.m.now)
          (lane_gain t c.args.sys.now c.args.par.now c.args.cells.now) n (column t c.args.m.now) refl (c.requires.end.border t lt));
      long = c.requires.cells;
      sums_long = c.requires.sums;
      kept = λ k lt. refl;
      small = λ k t le below lt. absurd (omega (arith, le, below));
      renewed = λ t k start lt rows le below. absurd (omega (arith, le, below));
    }

pub step_back-requires : goal.step_back-requires
step_back-requires g c =
    let h = c.loop-i.invariant in let i = c.loop-i.i in
    let sys = c.args.sys.now in let par = c.args.par.now in let cells = c.args.cells.now in
    let n : ℕ = length sys in
    let j : ℕ = n - 1 - i in
    let place : j + suc i ≡ n = omega (arith, c.loop-i-test.true) in
    let s = row-read sys j c.index-sys-j.result (omega (arith, place)) c.index-sys-j.is in
    let p = row-read par j c.index-par-j.result (omega (arith, place, c.requires.parities)) c.index-par-j.is in
    let r = metrics-read c.args.rows.now j c.index-rows-j.result (omega (arith, place, c.requires.room)) c.index-rows-j.is in (
      search rules,
      (
        search rules,
        (
          subst (λ (m : List (List ℤ)). AreRelative g.row.N m) (sym r) (c.requires.rows j (omega (arith, place))),
          (
            record {
              shape = h.shape;
              relative = λ t lt.
                  backward-relative c.metrics_stay_near.ensures.from_at_any_width (lane_window t [] (column t c.args.m.now) sys par cells) (n - i) i _
                  (let wide = width-column cells t n c.requires.cells in omega (arith, wide, c.loop-i-test.true))
                  (lane-soft g.row.N t [] (column t c.args.m.now) sys par cells lt c.requires.soft) (c.requires.end.border t lt) (h.row t lt);
            },
            (
              read-small g.row.N 127 127 sys j _ (omega arith) (omega (arith, place)) c.requires.soft.systematic s,
              (
                read-small g.row.N 127 127 par j _ (omega arith) (omega (arith, place, c.requires.parities)) c.requires.soft.parity p,
                read-small g.row.N 511 511 cells j _ (omega arith) (omega (arith, place, c.requires.cells)) c.requires.soft.extrinsic (h.kept j (omega (arith, place))),
              ),
            ),
          ),
        ),
      ),
    )

pub loop-i-preserved : goal.loop-i-preserved
loop-i-preserved g c =
    let h = c.loop-i.invariant in let i = c.loop-i.i in
    let sys = c.args.sys.now in let par = c.args.par.now in let cells = c.args.cells.now in
    let n : ℕ = length sys in
    let j : ℕ = n - 1 - i in
    let place : j + suc i ≡ n = omega (arith, c.loop-i-test.true) in
    let in_sys : j < length sys = omega (arith, place) in
    let in_par : j < length par = omega (arith, place, c.requires.parities) in
    let in_cells : j < length cells = omega (arith, place, c.requires.cells) in
    let s = row-read sys j c.index-sys-j.result in_sys c.index-sys-j.is in
    let p = row-read par j c.index-par-j.result in_par c.index-par-j.is in
    let r = metrics-read c.args.rows.now j c.index-rows-j.result (omega (arith, place, c.requires.room)) c.index-rows-j.is in
    let own = h.kept j (omega (arith, place)) in
    let x : ℕ → ℤ = λ t. at c.index-sys-j.result t +ℤ at (row_at c.loop-i.cells j) t in
    record {
      shape = c.step_back.ensures.shape;
      row = λ t lt.
          backward_at _ _ j (n - (i + 1)) (i + 1) (i + 1) _ (omega (arith, place)) refl
          (backward-row (column t c.args.m.now) (lane_gain t sys par cells) j i (column t c.loop-i.m) (column t c.step_back.new.beta) (x t) (at c.index-par-j.result t)
          (backward_at _ _ (n - i) (suc j) i i (column t c.loop-i.m) (omega (arith, place)) refl (h.row t lt))
          (lane-earns g.row.N t sys par cells j (x t) (at c.index-par-j.result t) lt c.requires.soft in_sys in_par in_cells
          (ap (λ (xs : List ℤ). at xs t +ℤ at (row_at c.loop-i.cells j) t) s ∙ ap (λ (xs : List ℤ). at (row_at sys j) t +ℤ at xs t) own)
          (ap (λ (xs : List ℤ). at xs t) p))
          (c.step_back.ensures.metrics t lt));
      long = length-set c.loop-i.cells j c.step_back.new.cell ∙ h.long;
      sums_long = length-set c.loop-i.sums j c.step_back.new.sum ∙ h.sums_long;
      kept = kept-more cells c.loop-i.cells n i j c.step_back.new.cell place h.kept;
      small = small-more g.row.N c.loop-i.sums n i j c.step_back.new.sum place h.sums_long h.small c.step_back.ensures.sum;
      renewed = λ t k start lt rows le below.
          let w : Window = lane_window t start (column t c.args.m.now) sys par cells in
          let before : column t c.index-rows-j.result ≡ column t (metrics_at c.args.rows.now j) = ap (column t) r in
          renewed-more w t c.loop-i.cells c.loop-i.sums n i j c.step_back.new.cell c.step_back.new.sum place h.long h.sums_long (λ k le below. h.renewed t k start lt rows le below)
          (cell-set t c.loop-i.cells c.loop-i.sums j c.step_back.new.cell c.step_back.new.sum (new_cell w j) (omega (arith, place, h.long)) (omega (arith, place, h.sums_long))
          (c.step_back.ensures.cells t lt
          ∙ (ap (λ (m : List ℤ). cell_through m (column t c.loop-i.m) (at c.index-sys-j.result t) (at c.index-par-j.result t) (at (row_at c.loop-i.cells j) t)) before
          ∙ (ap (λ (z : ℤ). cell_through (column t (metrics_at c.args.rows.now j)) (column t c.loop-i.m) z (at c.index-par-j.result t)
          (at (row_at c.loop-i.cells j) t)) (ap (λ (xs : List ℤ). at xs t) s ∙ sym (at-column sys t j in_sys))
          ∙ (ap (λ (z : ℤ). cell_through (column t (metrics_at c.args.rows.now j)) (column t c.loop-i.m) (at w.sys j) z (at (row_at c.loop-i.cells j) t))
          (ap (λ (xs : List ℤ). at xs t) p ∙ sym (at-column par t j in_par))
          ∙ (ap (λ (z : ℤ). cell_through (column t (metrics_at c.args.rows.now j)) (column t c.loop-i.m) (at w.sys j) (at w.par j) z)
          (ap (λ (xs : List ℤ). at xs t) own ∙ sym (at-column cells t j in_cells))
          ∙ cell-best w j i (column t (metrics_at c.args.rows.now j)) (column t c.loop-i.m) (length-map cells (λ (row : List ℤ). at row t) ∙ (c.requires.cells ∙ sym place))
          (rows j in_sys) (backward_at _ _ (n - i) (suc j) i i (column t c.loop-i.m) (omega (arith, place)) refl (h.row t lt))))))))
          k le below;
    }

pub returns-clause-cells : goal.returns-clause-cells
returns-clause-cells g c = λ t start lt rows.
    let h = c.loop-i.invariant in
    let sys = c.args.sys.now in
    decided-all (lane_window t start (column t c.args.m.now) sys c.args.par.now c.args.cells.now) t c.loop-i.cells c.loop-i.sums (length sys)
    (length-map c.args.cells.now (λ (row : List ℤ). at row t) ∙ c.requires.cells) h.long h.sums_long
    (λ k below. h.renewed t k start lt rows (omega (arith, c.loop-i-test.false)) below)

pub returns-clause-sums : goal.returns-clause-sums
returns-clause-sums g c = λ k t lk lt.
    let h = c.loop-i.invariant in h.small k t (omega (arith, c.loop-i-test.false)) (omega (arith, lk, h.sums_long)) lt
