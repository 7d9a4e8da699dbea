use Rattle.std.proofs.Common.{◌≡◌, ℕ, suc, ◌+◌, ◌-◌, ◌<◌, length, map, to_z, w16, refl, ap, ◌∙◌, arith}
use Rattle.std.proofs.lemmas.List.{length-set}
use Rattle.model_receiver.specs.Borders.{at}
use Rattle.model_receiver.specs.Windows.{cell_at}
use Rattle.window_decode.specs.Recursions.{cell_through}
use Rattle.window_decode.proofs.LaneNumbers.{passed}
use Rattle.window_decode.proofs.LaneKernel.{relative-still}
use Rattle.window_decode.proofs.WindowSteps.{earns, narrow, forward_first, forward-row, forward-relative, forward_passed, backward_first, backward-row, backward-relative, backward_passed}
use Rattle.window_decode.proofs.WindowSweep.{narrow-more, rows-more, renewed_none, renewed_set, row_read, renewed_all, earns_still, cell_still, forward_at, backward_at, forward_row-border, backward_row-border, forward_row-left, backward_row-left, width-between}
use Rattle.window_decode.proofs.window.sweep.Goals as goal

pub loop-j-init : goal.loop-j-init
loop-j-init g c = record {
  row = forward_passed _ _ 0 c.lanes-before.result c.lanes-before.ensures.border (λ i lt. absurd (omega (arith, lt))) (forward_first _ _ _ c.lanes-before.ensures.value c.lanes-before.ensures.border);
  border = c.lanes-before.ensures.border;
  rows = λ i lt. absurd (omega (arith, lt));
  narrow = λ i lt. absurd (omega (arith, lt));
  room = refl;
}

pub forward-before-requires : goal.forward-before-requires
forward-before-requires g c =
    forward-relative _ _ c.loop-j.j _ c.loop-j.invariant.border c.loop-j.invariant.narrow c.loop-j.invariant.row

pub loop-j-preserved : goal.loop-j-preserved
loop-j-preserved g c =
    let S = g.S.Strip in let strip = c.args.strip.now in let j = c.loop-j.j in let step = c.step_at-step in
    let a = earns c.args.alpha_in.now c.args.beta_in.now (S.systematic strip) (S.parity strip)
    (S.cells strip) j step.result.input step.result.parity step.ensures.input step.ensures.parity step.result.input_bound step.result.parity_bound in
    let h = c.loop-j.invariant in
    let inside : j < length c.loop-j.rows.items = omega (arith, c.loop-j-test.true, c.width-width.ensures, c.requires.room, h.room) in
    let narrow_next = narrow-more _ j h.narrow (narrow _ j step.result.input step.result.parity a) in
    record {
      row = forward_passed _ _ (j + 1) c.forward-before.result h.border narrow_next (forward-row _ _ j _ _ step.result.input step.result.parity h.row a c.forward-before.ensures);
      border = h.border;
      rows = rows-more _ _ c.loop-j.rows.items j (map (to_z w16) c.loop-j.before) inside h.row h.rows;
      narrow = narrow_next;
      room = length-set c.loop-j.rows.items j (map (to_z w16) c.loop-j.before) ∙ h.room;
    }

pub loop-i-init : goal.loop-i-init
loop-i-init g c = record {
  row =
      let n : ℕ = length (g.S.Strip.cells c.args.strip.now) in
      backward_at _ _ n (n - 0) 0 0 _ (omega arith) refl
      (backward_passed _ _ n 0 c.lanes-after.result c.lanes-after.ensures.border
      (λ i lt. c.loop-j.invariant.narrow i (omega (arith, lt, c.loop-j-test.false, c.width-width.ensures)))
      (backward_first _ _ _ _ c.lanes-after.ensures.value c.lanes-after.ensures.border));
  border = c.lanes-after.ensures.border;
  cells = renewed_none _ _;
  systematic = refl;
  parity = refl;
  rest = refl;
}

pub new_cell-cell-requires-clause-before : goal.new_cell-cell-requires-clause-before
new_cell-cell-requires-clause-before g c =
    let n : ℕ = length (g.S.Strip.cells c.args.strip.now) in
    let j : ℕ = c.width-width.result - 1 - c.loop-i.i in
    let place : j + suc c.loop-i.i ≡ n = omega (arith, c.loop-i-test.true, c.width-width.ensures) in
    let h = c.loop-j.invariant in
    let inside : j < length c.loop-j.rows.items = omega (arith, place, c.requires.room, h.room) in
    let row = row_read _ _ c.loop-j.rows.items j c.index.result.now inside c.index.ensures (h.rows j (omega (arith, place, c.loop-j-test.false, c.width-width.ensures))) in
    relative-still c.index.result.now (forward-relative _ _ j _ h.border (λ i lt. h.narrow i (omega (arith, lt, place, c.loop-j-test.false, c.width-width.ensures))) row)

pub new_cell-cell-requires-clause-after : goal.new_cell-cell-requires-clause-after
new_cell-cell-requires-clause-after g c =
    let n : ℕ = length (g.S.Strip.cells c.args.strip.now) in
    backward-relative _ _ (n - c.loop-i.i) c.loop-i.i _ c.loop-i.invariant.border
    (λ i lt. c.loop-j.invariant.narrow i (omega (arith, lt, c.loop-i-test.true, c.loop-j-test.false, c.width-width.ensures))) c.loop-i.invariant.row

pub backward-after-requires : goal.backward-after-requires
backward-after-requires g c =
    let n : ℕ = length (g.S.Strip.cells c.args.strip.now) in
    backward-relative _ _ (n - c.loop-i.i) c.loop-i.i _ c.loop-i.invariant.border
    (λ i lt. c.loop-j.invariant.narrow i (omega (arith, lt, c.loop-i-test.true, c.loop-j-test.false, c.width-width.ensures))) c.loop-i.invariant.row

pub loop-i-preserved : goal.loop-i-preserved
loop-i-preserved g c =
    let S = g.S.Strip in let strip = c.args.strip.now in let i = c.loop-i.i in let step = c.step_at-step-in-loop-i in
    let h = c.loop-i.invariant in
    let n : ℕ = length (S.cells strip) in
    let j : ℕ = c.width-width.result - 1 - i in
    let place : j + suc i ≡ n = omega (arith, c.loop-i-test.true, c.width-width.ensures) in
    let still = h.cells.kept j (omega (arith, place)) in
    let a = earns_still c.args.alpha_in.now c.args.beta_in.now (S.systematic strip) (S.parity strip) (S.cells strip) (S.systematic c.loop-i.strip) (S.parity c.loop-i.strip) (S.cells c.loop-i.strip) j
    step.result.input step.result.parity h.systematic h.parity still step.ensures.input step.ensures.parity step.result.input_bound step.result.parity_bound in
    let after = backward_at _ _ (n - i) (suc j) i i (map (to_z w16) c.loop-i.after) (omega (arith, place)) refl h.row in
    let inside : j < length c.loop-j.rows.items = omega (arith, place, c.requires.room, c.loop-j.invariant.room) in
    let before = forward_passed _ _ j c.index.result.now c.loop-j.invariant.border (λ k lt. c.loop-j.invariant.narrow k (omega (arith, lt, place, c.loop-j-test.false, c.width-width.ensures)))
    (row_read _ _ c.loop-j.rows.items j c.index.result.now inside c.index.ensures (c.loop-j.invariant.rows j (omega (arith, place, c.loop-j-test.false, c.width-width.ensures)))) in
    let made : c.new_cell-cell.result ≡ cell_through (passed c.index.result.now) (map (to_z w16) c.loop-i.after) (at (S.systematic c.loop-i.strip) j)
    (at (S.parity c.loop-i.strip) j) (cell_at (S.cells c.loop-i.strip) j).value =
    c.new_cell-cell.ensures (at (S.systematic c.loop-i.strip) j) (cell_at (S.cells c.loop-i.strip) j).value step.ensures.input
    ∙ ap (λ p. cell_through (passed c.index.result.now) (map (to_z w16) c.loop-i.after) (at (S.systematic c.loop-i.strip) j) p (cell_at (S.cells c.loop-i.strip) j).value) step.ensures.parity in
    let v = cell_still c.args.alpha_in.now c.args.beta_in.now (S.systematic strip) (S.parity strip) (S.cells strip) (S.systematic c.loop-i.strip) (S.parity c.loop-i.strip) (S.cells c.loop-i.strip) i j
    (passed c.index.result.now) (map (to_z w16) c.loop-i.after) c.new_cell-cell.result place h.systematic h.parity still before after made in
    record {
      row =
          backward_passed _ _ (n - (i + 1)) (i + 1) c.backward-after.result h.border
          (λ k lt. c.loop-j.invariant.narrow k (omega (arith, lt, place, c.loop-j-test.false, c.width-width.ensures)))
          (backward_at _ _ j (n - (i + 1)) (i + 1) (i + 1) _ (omega (arith, place)) refl (backward-row _ _ j i _ _ step.result.input step.result.parity after a c.backward-after.ensures));
      border = h.border;
      cells = renewed_set _ _ (S.cells c.loop-i.strip) (S.cells c.set_cell.new.self) i j c.new_cell-cell.result c.set_cell.ensures.cells place h.cells v;
      systematic = c.set_cell.ensures.systematic ∙ h.systematic;
      parity = c.set_cell.ensures.parity ∙ h.parity;
      rest = c.set_cell.ensures.rest ∙ h.rest;
    }

pub returns-clause-cells : goal.returns-clause-cells
returns-clause-cells g c =
    renewed_all _ _ _ c.loop-i.i (width-between c.args.alpha_in.now c.args.beta_in.now (g.S.Strip.systematic c.args.strip.now) (g.S.Strip.parity c.args.strip.now)
    (g.S.Strip.cells c.args.strip.now)) (omega (arith, c.loop-i-test.false, c.width-width.ensures)) c.loop-i.invariant.cells

pub returns-clause-forward : goal.returns-clause-forward
returns-clause-forward g c =
    let S = g.S.Strip in let strip = c.args.strip.now in
    forward_row-left c.args.alpha_in.now c.args.beta_in.now (S.systematic strip) (S.parity strip) (S.cells strip) (map (to_z w16) c.loop-j.before)
    (forward_at _ _ c.loop-j.j _ _ (omega (arith, c.loop-j-test.false, c.loop-j.auto.j-end, c.width-width.ensures)) c.loop-j.invariant.row)

pub returns-clause-backward : goal.returns-clause-backward
returns-clause-backward g c =
    let S = g.S.Strip in let strip = c.args.strip.now in
    backward_row-left c.args.alpha_in.now c.args.beta_in.now (S.systematic strip) (S.parity strip) (S.cells strip) (map (to_z w16) c.loop-i.after)
    (backward_at _ _ _ 0 c.loop-i.i _ _ (omega (arith, c.loop-i-test.false, c.width-width.ensures))
    (omega (arith, c.loop-i-test.false, c.loop-i.auto.i-end, c.width-width.ensures)) c.loop-i.invariant.row)

pub returns-clause-borders : goal.returns-clause-borders
returns-clause-borders g c =
    let narrow = c.loop-j.invariant.narrow in (
      forward_row-border _ _ _ (map (to_z w16) c.loop-j.before) c.requires.least (λ i lt. narrow i (omega (arith, lt, c.loop-j-test.false, c.width-width.ensures)))
          (forward_at _ _ c.loop-j.j _ _ (omega (arith, c.loop-j-test.false, c.loop-j.auto.j-end, c.width-width.ensures)) c.loop-j.invariant.row),
      backward_row-border _ _ _ (map (to_z w16) c.loop-i.after) c.requires.least (λ i lt. narrow i (omega (arith, lt, c.loop-j-test.false, c.width-width.ensures)))
          (backward_at _ _ _ 0 c.loop-i.i _ _ (omega (arith, c.loop-i-test.false, c.width-width.ensures))
          (omega (arith, c.loop-i-test.false, c.loop-i.auto.i-end, c.width-width.ensures)) c.loop-i.invariant.row),
    )
