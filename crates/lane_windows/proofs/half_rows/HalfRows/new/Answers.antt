use Rattle.std.proofs.Common.{◌≡◌, ℕ, ℤ, ◌*◌, ◌<◌, List, length, map, replicate, pos, sym, ap, ◌∙◌, subst, arith}
use Rattle.std.proofs.lemmas.List.{length-replicate}
use Rattle.std.proofs.lemmas.List.FromFn.{length-map-range_with_len}
use Rattle.model_receiver.specs.HalfIteration.{Shape, window_width, positions, systematic_at, parity_at}
use Rattle.half_iteration.specs.Views.{AreWhole, by_position}
use Rattle.half_iteration.proofs.Parts.{written}
use Rattle.window_rows.specs.Rows.{column, AreWithin, values_of_window}
use Rattle.lane_banks.proofs.BankCells.{fits-twice, lanes-few}
use Rattle.lane_windows.proofs.LaneHalves.{values-of_half}
use Rattle.lane_windows.proofs.half_rows.HalfRows.new.Goals as goal

-- so many rows take so many values
enough : (n w v : ℕ) (shape : Shape) (f : ℕ → ℤ) (values : List ℤ) → AreWhole shape → shape.windows ≡ n → w ≡ window_width shape → v ≡ w → values ≡ by_position shape f
    → n * v ≡ length values
enough n w v shape f values whole en ew ev e =
    ap (λ (x : ℕ). n * x) (ev ∙ ew) ∙ (ap (λ (x : ℕ). x * window_width shape) (sym en) ∙ (whole.whole ∙ sym (ap length e ∙ length-map-range_with_len f 0 shape.k)))

pub zero_rows-requires : goal.zero_rows-requires
zero_rows-requires g c = omega (arith, lanes-few g.row.N c.requires.lanes)

pub zero_rows-requires-2 : goal.zero_rows-requires-2
zero_rows-requires-2 g c = omega (arith, lanes-few g.row.N c.requires.lanes)

pub lay_out-requires : goal.lay_out-requires
lay_out-requires g c =
    let n = g.row.N in let v = c.args.views.now in let w : ℕ = c.width-width.result in
    let rows : length c.as_mut_slice.result.now ≡ w = ap length (c.as_mut_slice.ensures.value ∙ c.in_ok-systematic.ensures) ∙ length-replicate w (replicate n (pos 0)) in (
      fits-twice n c.requires.lanes,
      enough n w (length c.as_mut_slice.result.now) v.shape
          (systematic_at v.streams.now v.shape.k c.args.h) c.systematic.result.now c.width-width.ensures.whole c.requires.windows c.width-width.ensures.value rows c.systematic.ensures,
    )

pub lay_out-requires-2 : goal.lay_out-requires-2
lay_out-requires-2 g c =
    let n = g.row.N in let v = c.args.views.now in let w : ℕ = c.width-width.result in
    let rows : length c.as_mut_slice-2.result.now ≡ w = ap length (c.as_mut_slice-2.ensures.value ∙ c.in_ok-parity.ensures) ∙ length-replicate w (replicate n (pos 0)) in (
      fits-twice n c.requires.lanes,
      enough n w (length c.as_mut_slice-2.result.now) v.shape
          (parity_at v.streams.now c.args.h) c.parity.result.now c.width-width.ensures.whole c.requires.windows c.width-width.ensures.value rows c.parity.ensures,
    )

-- a column of rows that were laid out
laid : (shape : Shape) (f : ℕ → ℤ) (values : List ℤ) (all rows : List (List ℤ)) (v t : ℕ) → AreWhole shape → t < shape.windows → values ≡ by_position shape f → all ≡ rows
    → v ≡ window_width shape → column t rows ≡ values_of_window v values t → column t all ≡ map f (positions shape t)
laid shape f values all rows v t whole lt e ea ev h =
    ap (column t) ea ∙ (h ∙ (ap (λ (k : ℕ). values_of_window k values t) ev ∙ values-of_half shape f values t whole lt e))

pub returns : goal.returns
returns g c =
    let n = g.row.N in let v = c.args.views.now in let shape = v.shape in let w : ℕ = c.width-width.result in
    let whole = c.width-width.ensures.whole in let ew = c.width-width.ensures.value in
    let ls : length c.as_mut_slice.result.now ≡ w = ap length (c.as_mut_slice.ensures.value ∙ c.in_ok-systematic.ensures) ∙ length-replicate w (replicate n (pos 0)) in
    let lp : length c.as_mut_slice-2.result.now ≡ w = ap length (c.as_mut_slice-2.ensures.value ∙ c.in_ok-parity.ensures) ∙ length-replicate w (replicate n (pos 0)) in
    let s = c.in_ok-systematic.systematic in let p = c.in_ok-parity.parity in
    let es = written s.len c.lay_out.new.rows s.items (c.lay_out.auto.rows ∙ (ap length c.as_mut_slice.ensures.value ∙ sym s.ok.0)) in
    let ep = written p.len c.lay_out-2.new.rows p.items (c.lay_out-2.auto.rows ∙ (ap length c.as_mut_slice-2.ensures.value ∙ sym p.ok.0)) in
    record {
      systematic_long = ap length es ∙ (c.lay_out.auto.rows ∙ (ls ∙ ew));
      parity_long = ap length ep ∙ (c.lay_out-2.auto.rows ∙ (lp ∙ ew));
      systematic = λ t lt. laid shape (systematic_at v.streams.now shape.k c.args.h) c.systematic.result.now _ c.lay_out.new.rows
          (length c.as_mut_slice.result.now) t whole (omega (arith, c.requires.windows, lt)) c.systematic.ensures es (ls ∙ ew) (c.lay_out.ensures.columns t lt);
      parity = λ t lt. laid shape (parity_at v.streams.now c.args.h) c.parity.result.now _ c.lay_out-2.new.rows (length c.as_mut_slice-2.result.now) t whole
          (omega (arith, c.requires.windows, lt)) c.parity.ensures ep (lp ∙ ew) (c.lay_out-2.ensures.columns t lt);
      systematic_soft = subst (AreWithin n 127) (sym es) c.lay_out.ensures.within;
      parity_soft = subst (AreWithin n 127) (sym ep) c.lay_out-2.ensures.within;
    }
