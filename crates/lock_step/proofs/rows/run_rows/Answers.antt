use Rattle.std.proofs.Common.{◌≡◌, ℕ, ◌<◌, ◌≤◌, List, [], length, ℤ, sym, ap, ◌∙◌, subst, arith, rules}
use Rattle.model_receiver.specs.Borders.{Border}
use Rattle.model_receiver.specs.Windows.{new_cells}
use Rattle.window_decode.specs.Metrics.{IsForwardRow, IsBackwardRow}
use Rattle.window_decode.specs.Ranges.{IsSoft}
use Rattle.window_rows.specs.Rows.{column, AreWithin}
use Rattle.lock_step.specs.declared.inputs.SoftRows.{SoftRows}
use Rattle.lock_step.specs.Lanes.{border_at, lane_window, window_at, AreSoft, AreSoftRows}
use Rattle.lock_step.specs.Vectors.{AreBorders, lane_gain, AreForwardRows}
use Rattle.lock_step.proofs.Sweeps.{lane-soft, borders_from, width-column, new-within, forward-end, backward-end}
use Rattle.lock_step.proofs.Bounds.{forward-relative, forward-border, backward-border}
use Rattle.lock_step.proofs.rows.run_rows.Goals as goal

-- what the windows read, as the sweeps take it
record Inputs {n : ℕ} (soft : SoftRows n) (cells : List (List ℤ)) : Type 0 where
  parities : length soft.parity.now ≡ length soft.systematic.now
  long : length cells ≡ length soft.systematic.now
  least : 8 ≤ length soft.systematic.now
  all : AreSoft n soft.systematic.now soft.parity.now cells
  width : (t : ℕ) → length soft.systematic.now ≡ length (column t cells)
  each : (t : ℕ) (start end : Border) → t < n → IsSoft (lane_window t start end soft.systematic.now soft.parity.now cells)

inputs : {n : ℕ} (soft : SoftRows n) (cells : List (List ℤ)) → 8 ≤ length cells → AreSoftRows (length cells) soft → AreWithin n 511 cells → Inputs soft cells
inputs {n} soft cells least h within =
    let all : AreSoft n soft.systematic.now soft.parity.now cells = record { systematic = h.systematic; parity = h.parity; extrinsic = within } in
    record {
      parities = h.parity_long ∙ sym h.systematic_long;
      long = sym h.systematic_long;
      least = omega (arith, least, h.systematic_long);
      all = all;
      width = λ t. width-column cells t (length soft.systematic.now) (sym h.systematic_long);
      each = λ t start end lt. lane-soft n t start end soft.systematic.now soft.parity.now cells lt all;
    }

pub sweep_forward-requires : goal.sweep_forward-requires
sweep_forward-requires g c =
    let i = inputs c.args.soft c.args.cells.now c.requires.least c.requires.soft c.requires.cells in (
      search rules,
      (
        search rules,
        (
          omega (arith, c.requires.room, i.long),
          (
            i.parities,
            (
              i.long,
              (
                i.all,
                borders_from g.row.N c.put_borders.new.m c.args.borders.alpha.now c.put_borders.ensures.shape c.put_borders.ensures.lanes c.put_borders.ensures.borders,
              ),
            ),
          ),
        ),
      ),
    )

pub take_borders-requires : goal.take_borders-requires
take_borders-requires g c =
    let i = inputs c.args.soft c.args.cells.now c.requires.least c.requires.soft c.requires.cells in
    let sys = c.args.soft.systematic.now in let start = λ (t : ℕ). column t c.put_borders.new.m in (
      search rules,
      (
        search rules,
        (
          c.requires.alpha_out,
          record {
            shape = c.sweep_forward.ensures.shape;
            border = λ t lt.
                forward-border c.metrics_stay_near.ensures.to_after_three (lane_window t (start t) [] sys c.args.soft.parity.now c.args.cells.now) (length sys) _ (i.width t) i.least
                (i.each t (start t) [] lt) (c.sweep_forward.ensures.last t lt);
          },
        ),
      ),
    )

pub sweep_backward-requires : goal.sweep_backward-requires
sweep_backward-requires g c =
    let i = inputs c.args.soft c.args.cells.now c.requires.least c.requires.soft c.requires.cells in
    let sys = c.args.soft.systematic.now in let start = λ (t : ℕ). column t c.put_borders.new.m in
    let first : AreBorders g.row.N c.put_borders.new.m = borders_from g.row.N c.put_borders.new.m
    c.args.borders.alpha.now c.put_borders.ensures.shape c.put_borders.ensures.lanes c.put_borders.ensures.borders in (
      search rules,
      (
        search rules,
        (
          omega (arith, c.requires.room, i.long, c.sweep_forward.auto.rows),
          (
            i.parities,
            (
              i.long,
              (
                c.requires.sums ∙ i.long,
                (
                  i.all,
                  (
                    λ j below. record {
                      shape = c.sweep_forward.ensures.shapes j below;
                      relative = λ t lt.
                          forward-relative c.metrics_stay_near.ensures.to_at_any_width (lane_window t (start t) [] sys c.args.soft.parity.now c.args.cells.now) j _
                          (let wide = i.width t in omega (arith, wide, below)) (i.each t (start t) [] lt) (first.border t lt) (c.sweep_forward.ensures.rows t lt j below);
                    },
                    borders_from g.row.N c.put_borders-2.new.m c.args.borders.beta.now c.put_borders-2.ensures.shape c.put_borders-2.ensures.lanes c.put_borders-2.ensures.borders,
                  ),
                ),
              ),
            ),
          ),
        ),
      ),
    )

pub take_borders-requires-2 : goal.take_borders-requires-2
take_borders-requires-2 g c =
    let i = inputs c.args.soft c.args.cells.now c.requires.least c.requires.soft c.requires.cells in
    let sys = c.args.soft.systematic.now in let end = λ (t : ℕ). column t c.put_borders-2.new.m in (
      search rules,
      (
        search rules,
        (
          c.requires.beta_out,
          record {
            shape = c.sweep_backward.ensures.shape;
            border = λ t lt.
                backward-border c.metrics_stay_near.ensures.from_after_three (lane_window t [] (end t) sys c.args.soft.parity.now c.args.cells.now) (length sys) _ (i.width t) i.least
                (i.each t [] (end t) lt) (c.sweep_backward.ensures.first t lt);
          },
        ),
      ),
    )

pub returns-clause-cells : goal.returns-clause-cells
returns-clause-cells g c = λ t lt.
    let sys = c.args.soft.systematic.now in let par = c.args.soft.parity.now in let cells = c.args.cells.now in let alpha = c.args.borders.alpha.now in
    c.sweep_backward.ensures.cells t (border_at alpha t) lt
    (subst (λ (b : List ℤ). AreForwardRows t b sys par cells c.sweep_forward.new.rows (length sys)) (c.put_borders.ensures.lanes t lt) (c.sweep_forward.ensures.rows t lt))
    ∙ ap (λ (b : List ℤ). new_cells (lane_window t (border_at alpha t) b sys par cells)) (c.put_borders-2.ensures.lanes t lt)

pub returns-clause-within : goal.returns-clause-within
returns-clause-within g c =
    let i = inputs c.args.soft c.args.cells.now c.requires.least c.requires.soft c.requires.cells in
    new-within g.row.N (length c.args.soft.systematic.now) (λ t. window_at t c.args.borders c.args.soft c.args.cells.now) c.sweep_backward.new.cells c.sweep_backward.new.sums
    (c.sweep_backward.auto.cells ∙ i.long) (c.sweep_backward.auto.sums ∙ (c.requires.sums ∙ i.long)) (λ t. sym (i.width t)) (returns-clause-cells g c)

pub returns-clause-forward : goal.returns-clause-forward
returns-clause-forward g c = λ t lt.
    let i = inputs c.args.soft c.args.cells.now c.requires.least c.requires.soft c.requires.cells in
    let sys = c.args.soft.systematic.now in
    c.take_borders.ensures t lt
    ∙ forward-end (window_at t c.args.borders c.args.soft c.args.cells.now) (length sys) (column t c.sweep_forward.new.m) (i.width t)
    (subst (λ (b : List ℤ). IsForwardRow b (lane_gain t sys c.args.soft.parity.now c.args.cells.now) (length sys) (column t c.sweep_forward.new.m)) (c.put_borders.ensures.lanes t lt)
    (c.sweep_forward.ensures.last t lt))

pub returns-clause-backward : goal.returns-clause-backward
returns-clause-backward g c = λ t lt.
    let i = inputs c.args.soft c.args.cells.now c.requires.least c.requires.soft c.requires.cells in
    let sys = c.args.soft.systematic.now in
    c.take_borders-2.ensures t lt
    ∙ backward-end (window_at t c.args.borders c.args.soft c.args.cells.now) (length sys) (column t c.sweep_backward.new.m) (i.width t)
    (subst (λ (b : List ℤ). IsBackwardRow b (lane_gain t sys c.args.soft.parity.now c.args.cells.now) 0 (length sys) (column t c.sweep_backward.new.m)) (c.put_borders-2.ensures.lanes t lt)
    (c.sweep_backward.ensures.first t lt))
