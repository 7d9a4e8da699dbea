use Rattle.std.proofs.Common.{◌≡◌, ℕ, ◌+◌, ◌*◌, ◌%◌, ◌<◌, ◌≤◌, List, length, get_or, map, refl, sym, ap, ◌∙◌, subst, arith}
use Rattle.std.specs.Prelude.{slice_index}
use Rattle.std.specs.List.{range_with_len}
use Rattle.std.proofs.lemmas.List.FromFn.{length-map-range_with_len, get_or-map-range_with_len}
use Rattle.model_sender.specs.Interleaver.{place}
use Rattle.model_sender.proofs.RowLaws.{range-of_size}
use Rattle.model_receiver.specs.HalfIteration.{Shape, window_width, order}
use Rattle.half_iteration.specs.Views.{AreWhole}
use Rattle.half_iteration.proofs.Orders.{order-below, order-apart}
use Rattle.lane_banks.specs.Permutations.{IsTable}
use Rattle.lane_banks.proofs.BankCells.{lanes-least, lanes-few, place-inside, lanes-some}
use Rattle.lane_banks.proofs.PermutationLaws.{place-one_row}
use Rattle.lane_banks.proofs.PermutationSteps.{table-by}
use Rattle.lane_windows.proofs.LaneHalves.{narrow, covers}
use Rattle.lane_windows.proofs.lane_views.LaneViews.new.Goals as goal

-- the places of the second order
module _ (shape : Shape) (places : List ℕ) (whole : AreWhole shape) (is : places ≡ map (order shape.k 1) (range_with_len 0 shape.k)) where
  place-at : (i : ℕ) → i < shape.k → slice_index places i ≡ place shape.k i
  place-at i lt = ap (λ (xs : List ℕ). get_or xs i 0) is ∙ get_or-map-range_with_len (order shape.k 1) 0 shape.k i i 0 lt (omega arith)

  place-under : (i : ℕ) → i < shape.k → slice_index places i < shape.k
  place-under i lt = subst (λ (p : ℕ). p < shape.k) (sym (place-at i lt)) (order-below shape.k 1 i whole.size lt)

pub permutations_of-requires : goal.permutations_of-requires
permutations_of-requires g c =
    let n = g.row.N in let shape = c.in_ok-views.views.shape in let w : ℕ = c.width.result in let whole = c.width.ensures.whole in
    let lanes = c.requires.lanes in
    let en : shape.windows ≡ n = ap (λ (s : Shape). s.windows) c.in_ok-views.ensures.shape ∙ c.requires.windows in
    let e : n * w ≡ shape.k = covers shape n w whole en c.width.ensures.value in
    let places = c.places.result.now in
    let least : 8 ≤ w = omega (arith, c.width.ensures.value, whole.wide) in
    let most : w ≤ 768 = narrow n w shape.k e (lanes-least n lanes) (range-of_size shape.k whole.size).1 in
    let long : length places ≡ n * w = ap length c.places.ensures ∙ (length-map-range_with_len (order shape.k 1) 0 shape.k ∙ sym e) in
    let below : (i : ℕ) → i < n * w → slice_index places i < n * w =
    λ i li. (let b = place-under shape places whole c.places.ensures i (omega (arith, li, e)) in omega (arith, b, e)) in
    let one_row : (t j : ℕ) → t < n → j < w → slice_index places (t * w + j) % w ≡ slice_index places j % w =
    λ t j lt lj. (
    let inside = place-inside n w t j lt lj in let first = place-inside n w 0 j (lanes-some n lanes) lj in
    let z : 0 * w + j ≡ j = omega arith in
    ap (λ (p : ℕ). p % w) (place-at shape places whole c.places.ensures (t * w + j) (omega (arith, inside, e)))
    ∙ (place-one_row shape.k n w t j (sym e) ∙ ap (λ (p : ℕ). p % w) (sym (place-at shape places whole c.places.ensures j (omega (arith, first, z, e)))))) in
    (omega arith, (lanes, (least, (most, (long, (below, one_row))))))

pub invariant_of-result : goal.invariant_of-result
invariant_of-result g c =
    let n = g.row.N in let shape = c.in_ok-views.views.shape in let w : ℕ = c.width.result in let whole = c.width.ensures.whole in
    let en : shape.windows ≡ n = ap (λ (s : Shape). s.windows) c.in_ok-views.ensures.shape ∙ c.requires.windows in
    let e : n * w ≡ shape.k = covers shape n w whole en c.width.ensures.value in
    let e2 : n * window_width shape ≡ shape.k = covers shape n (window_width shape) whole en refl in
    let x = c.in_ok-permutations.permutations in let places = c.places.result.now in
    record {
      few = omega (arith, lanes-few n c.requires.lanes);
      windows = en;
      natural_rows = c.in_ok-natural.ensures;
      interleaved_rows = c.in_ok-interleaved.ensures;
      steps = c.in_ok-permutations.ensures.rows ∙ c.width.ensures.value;
      bank_steps = c.in_ok-permutations.ensures.banks ∙ c.width.ensures.value;
      table = subst (λ (k : ℕ). IsTable n k (place shape.k) x.rows.items x.banks.items) c.width.ensures.value
          (table-by n w (slice_index places) (place shape.k) x.rows.items x.banks.items
          (λ i li. place-at shape places whole c.places.ensures i (omega (arith, li, e))) c.in_ok-permutations.ensures.table);
      apart = λ i j li lj same. order-apart shape.k 1 i j whole.size (omega (arith, li, e2)) (omega (arith, lj, e2)) same;
    }
