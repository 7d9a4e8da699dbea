use Rattle.std.proofs.Common.{◌<◌, List, [], length, ℤ, ◌+ℤ◌, refl, sym, ap, ◌∙◌, subst, arith, rules}
use Rattle.std.proofs.lemmas.List.{get_or-set_same, length-set}
use Rattle.model_receiver.specs.Borders.{at, number_for, relative}
use Rattle.window_decode.specs.Recursions.{step_gain, forward}
use Rattle.window_decode.specs.Metrics.{IsForwardRow}
use Rattle.window_decode.proofs.WindowSteps.{forward_first, forward-row}
use Rattle.window_rows.specs.Rows.{row_at, column}
use Rattle.lock_step.specs.Lanes.{lane_window}
use Rattle.lock_step.specs.Vectors.{AreMetrics, AreRelative, lane_gain}
use Rattle.lock_step.proofs.Vectors.{sum-small}
use Rattle.lock_step.proofs.Sweeps.{lane-soft, lane-earns, row-read, read-small, set-more, width-column}
use Rattle.lock_step.proofs.Bounds.{forward-relative}
use Rattle.lock_step.proofs.rows.sweep_forward.Goals as goal

pub loop-j-init : goal.loop-j-init
loop-j-init g c = record {
  shape = c.requires.start.shape;
  row = λ t lt. forward_first (column t c.args.m.now) (lane_gain t c.args.sys.now c.args.par.now c.args.cells.now) (column t c.args.m.now) refl (c.requires.start.border t lt);
  shapes = λ i lt. absurd (omega (arith, lt));
  rows = λ t lt i below. absurd (omega (arith, below));
  room = refl;
}

pub keep-requires : goal.keep-requires
keep-requires g c =
    let h = c.loop-j.invariant in (
      search rules,
      (
        search rules,
        record {
          shape = h.shape;
          relative = λ t lt.
              forward-relative c.metrics_stay_near.ensures.to_at_any_width (lane_window t (column t c.args.m.now) [] c.args.sys.now c.args.par.now c.args.cells.now) c.loop-j.j _
              (let wide = width-column c.args.cells.now t (length c.args.sys.now) c.requires.cells in omega (arith, wide, c.loop-j-test.true))
              (lane-soft g.row.N t (column t c.args.m.now) [] c.args.sys.now c.args.par.now c.args.cells.now lt c.requires.soft) (c.requires.start.border t lt) (h.row t lt);
        },
      ),
    )

pub add-requires : goal.add-requires
add-requires g c =
    let s = row-read c.args.sys.now c.loop-j.j c.index-sys-j.result c.loop-j-test.true c.index-sys-j.is in
    let k = row-read c.args.cells.now c.loop-j.j c.index-cells-j.result (omega (arith, c.loop-j-test.true, c.requires.cells)) c.index-cells-j.is in (
      search rules,
      (
        read-small g.row.N 127 638 c.args.sys.now c.loop-j.j _ (omega arith) c.loop-j-test.true c.requires.soft.systematic s,
        read-small g.row.N 511 511 c.args.cells.now c.loop-j.j _ (omega arith) (omega (arith, c.loop-j-test.true, c.requires.cells)) c.requires.soft.extrinsic k,
      ),
    )

pub forward-requires : goal.forward-requires
forward-requires g c =
    let h = c.loop-j.invariant in let j = c.loop-j.j in
    let s = row-read c.args.sys.now j c.index-sys-j.result c.loop-j-test.true c.index-sys-j.is in
    let k = row-read c.args.cells.now j c.index-cells-j.result (omega (arith, c.loop-j-test.true, c.requires.cells)) c.index-cells-j.is in
    let p = row-read c.args.par.now j c.index-par-j.result (omega (arith, c.loop-j-test.true, c.requires.parities)) c.index-par-j.is in
    let kept = get_or-set_same c.loop-j.rows j c.keep.new.row [] (omega (arith, c.loop-j-test.true, c.requires.room, h.room)) ∙ c.keep.ensures in (
      search rules,
      (
        search rules,
        (
          subst (λ (m : List (List ℤ)). AreRelative g.row.N m) (sym kept) (record {
            shape = h.shape;
            relative = λ t lt.
                forward-relative c.metrics_stay_near.ensures.to_at_any_width (lane_window t (column t c.args.m.now) [] c.args.sys.now c.args.par.now c.args.cells.now) c.loop-j.j _
                (let wide = width-column c.args.cells.now t (length c.args.sys.now) c.requires.cells in omega (arith, wide, c.loop-j-test.true))
                (lane-soft g.row.N t (column t c.args.m.now) [] c.args.sys.now c.args.par.now c.args.cells.now lt c.requires.soft) (c.requires.start.border t lt) (h.row t lt);
          }),
          (
            sum-small g.row.N c.index-sys-j.result c.index-cells-j.result c.add.new.out
                (read-small g.row.N 127 127 c.args.sys.now j _ (omega arith) c.loop-j-test.true c.requires.soft.systematic s)
                (read-small g.row.N 511 511 c.args.cells.now j _ (omega arith) (omega (arith, c.loop-j-test.true, c.requires.cells)) c.requires.soft.extrinsic k)
                c.add.ensures.lanes,
            read-small g.row.N 127 127 c.args.par.now j _ (omega arith) (omega (arith, c.loop-j-test.true, c.requires.parities)) c.requires.soft.parity p,
          ),
        ),
      ),
    )

pub loop-j-preserved : goal.loop-j-preserved
loop-j-preserved g c =
    let h = c.loop-j.invariant in let j = c.loop-j.j in
    let sys = c.args.sys.now in let par = c.args.par.now in let cells = c.args.cells.now in
    let inside : j < length c.loop-j.rows = omega (arith, c.loop-j-test.true, c.requires.room, h.room) in
    let in_par : j < length par = omega (arith, c.loop-j-test.true, c.requires.parities) in
    let in_cells : j < length cells = omega (arith, c.loop-j-test.true, c.requires.cells) in
    let s = row-read sys j c.index-sys-j.result c.loop-j-test.true c.index-sys-j.is in
    let k = row-read cells j c.index-cells-j.result in_cells c.index-cells-j.is in
    let p = row-read par j c.index-par-j.result in_par c.index-par-j.is in
    let kept = get_or-set_same c.loop-j.rows j c.keep.new.row [] inside ∙ c.keep.ensures in
    record {
      shape = c.forward.ensures.shape;
      row = λ t lt.
          forward-row (column t c.args.m.now) (lane_gain t sys par cells) j (column t c.loop-j.m) (column t c.forward.new.after) (at c.add.new.out t) (at c.index-par-j.result t) (h.row t lt)
          (lane-earns g.row.N t sys par cells j (at c.add.new.out t) (at c.index-par-j.result t) lt c.requires.soft c.loop-j-test.true in_par in_cells
          (c.add.ensures.lanes t lt ∙ (ap (λ (xs : List ℤ). at xs t +ℤ at c.index-cells-j.result t) s ∙ ap (λ (xs : List ℤ). at (row_at sys j) t +ℤ at xs t) k))
          (ap (λ (xs : List ℤ). at xs t) p))
          (c.forward.ensures.lanes t lt ∙ ap (λ (m : List (List ℤ)). relative (forward (number_for (column t m)) (step_gain (at c.add.new.out t) (at c.index-par-j.result t)))) kept);
      shapes = set-more (λ i m. AreMetrics g.row.N m) c.loop-j.rows j c.keep.new.row inside h.shapes (subst (λ (m : List (List ℤ)). AreMetrics g.row.N m) (sym c.keep.ensures) h.shape);
      rows = λ t lt.
          set-more (λ i m. IsForwardRow (column t c.args.m.now) (lane_gain t sys par cells) i (column t m)) c.loop-j.rows j c.keep.new.row inside (h.rows t lt)
          (subst (λ (m : List (List ℤ)). IsForwardRow (column t c.args.m.now) (lane_gain t sys par cells) j (column t m)) (sym c.keep.ensures) (h.row t lt));
      room = length-set c.loop-j.rows j c.keep.new.row ∙ h.room;
    }
