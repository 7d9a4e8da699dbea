-- A half iteration, window after window.
use Rattle.std.proofs.Common.{◌≡◌, ◌⊎◌, ℕ, ◌+◌, ◌-◌, ◌*◌, ◌%◌, ◌<◌, ◌≤◌, List, length, set, map, sym, ap, ◌∙◌, refl, subst, arith, Bool, cond, ◌==◌, [], inl, inr}
use Rattle.std.specs.List.{range_with_len}
use Rattle.std.proofs.lemmas.Bool.{cases_eq, cases_lt}
use Rattle.std.proofs.lemmas.List.{ext_get_or, length-set, get_or-set_same, get_or-set_other}
use Rattle.std.proofs.lemmas.List.FromFn.{fill_by_all, length-map-range_with_len, get_or-map-range_with_len}
use Rattle.std.proofs.lemmas.Nat.{div-mul-add, mod-mul-add}
use Rattle.lte_bits.specs.declared.block.SoftStreams.{SoftStreams}
use Rattle.model_receiver.specs.Borders.{Border, known}
use Rattle.model_receiver.specs.Paths.{Window}
use Rattle.model_receiver.specs.Windows.{Extrinsic, window_between, zero_cell, cell_at, new_cells}
use Rattle.model_receiver.specs.HalfIteration.{Shape, Before, BordersLeft, window_width, positions, order, position_of, systematic_at, parity_at, none_left, tail_border, left_by, start_border, end_border, window, renewed, left_after, after}
use Rattle.model_receiver.proofs.PlacesOfPositions.{position-is}
use Rattle.half_iteration.specs.Runs.{start_of, window_from, left_of, IsReplaced, IsPartDone}
use Rattle.half_iteration.specs.Views.{AreWhole}
use Rattle.half_iteration.proofs.Orders.{not-equal}
use Rattle.half_iteration.proofs.WindowParts.{position-inside}

-- values by position that are equal at each position
pub same-by_range : {X : Type 0} (f g : ℕ → X) (a n : ℕ) (d : X) → ((i : ℕ) → i < n → f (a + i) ≡ g (a + i))
    → map f (range_with_len a n) ≡ map g (range_with_len a n)
same-by_range f g a n d same =
    ext_get_or d _ _ (length-map-range_with_len f a n ∙ sym (length-map-range_with_len g a n))
    (λ i lt. let h : i < n = omega (arith, length-map-range_with_len f a n, lt) in
    get_or-map-range_with_len f a n i (a + i) d h refl ∙ (same i h ∙ sym (get_or-map-range_with_len g a n i (a + i) d h refl)))

pub none_done : (soft : SoftStreams) (shape : Shape) (h : ℕ) (b : Before) → length b.cells ≡ shape.k → length b.left_before_last ≡ shape.windows
    → IsPartDone soft shape h b 0 b.cells b.left_before_last known
none_done soft shape h b long windows = record {
  long = long;
  done = λ i lt. absurd (omega (arith, lt));
  to_do = λ i le lt. refl;
  left_long = windows;
  left_done = λ u lt. absurd (omega (arith, lt));
  left_to_do = λ u le. refl;
  begins = refl;
}

-- window t reads what it reads of the half's start
pub window-is : (soft : SoftStreams) (shape : Shape) (h : ℕ) (b : Before) (t : ℕ) (cells : List Extrinsic) (left : List BordersLeft) (start end : Border)
    → AreWhole shape → t < shape.windows → IsPartDone soft shape h b t cells left start → end ≡ end_border soft shape h b t
    → window_from soft shape h t start end cells ≡ window soft shape h b t
window-is soft shape h b t cells left start end whole lt part e =
    ap (λ x. window_from soft shape h t x end cells) part.begins
    ∙ (ap (λ x. window_from soft shape h t (start_border b t) x cells) e
    ∙ ap (λ (cs : List Extrinsic). window_between (start_border b t) (end_border soft shape h b t)
    (map (systematic_at soft shape.k h) (positions shape t)) (map (parity_at soft h) (positions shape t)) cs)
    (same-by_range (λ i. cell_at cells (order shape.k h i)) (λ i. cell_at b.cells (order shape.k h i)) (t * window_width shape) (window_width shape) zero_cell
    (λ i li. part.to_do (t * window_width shape + i) (omega arith) (position-inside shape t i whole lt li))))

-- the border with which window t ends, by the borders so far
pub end-is : (soft : SoftStreams) (shape : Shape) (h : ℕ) (b : Before) (t : ℕ) (cells : List Extrinsic) (left : List BordersLeft) (start : Border)
    → IsPartDone soft shape h b t cells left start → end_border soft shape h (start_of [] left) t ≡ end_border soft shape h b t
end-is soft shape h b t cells left start part =
    ap (λ (x : BordersLeft). cond (t + 1 == shape.windows) (tail_border soft shape.k h) x.backward) (part.left_to_do (t + 1) (omega arith))

start_border-more : (b : Before) (t : ℕ) → start_border b (t + 1) ≡ (left_by b.left_before_last t).forward
start_border-more b t =
    ap (λ (q : Bool). cond q known (left_by b.left_before_last (t + 1 - 1)).forward) (not-equal (t + 1) 0 (λ e. absurd (omega (arith, e))))
    ∙ ap (λ (n : ℕ). (left_by b.left_before_last n).forward) (let e : t + 1 - 1 ≡ t = omega arith in e)

pub renewed-in_window : (soft : SoftStreams) (shape : Shape) (h : ℕ) (b : Before) (t j : ℕ) → j < window_width shape
    → renewed soft shape h b (t * window_width shape + j) ≡ cell_at (new_cells (window soft shape h b t)) j
renewed-in_window soft shape h b t j lt =
    ap (λ (q : ℕ). cell_at (new_cells (window soft shape h b q)) ((t * window_width shape + j) % window_width shape)) (div-mul-add t (window_width shape) j lt)
    ∙ ap (λ (r : ℕ). cell_at (new_cells (window soft shape h b t)) r) (mod-mul-add t (window_width shape) j lt)

pub one_more_done : (soft : SoftStreams) (shape : Shape) (h : ℕ) (b : Before) (t : ℕ) (cells new : List Extrinsic) (left : List BordersLeft) (start next : Border) (w : Window) (l : BordersLeft)
    → t < shape.windows → IsPartDone soft shape h b t cells left start → w ≡ window soft shape h b t
    → IsReplaced shape h t w cells new → l ≡ left_of w → next ≡ (left_by left t).forward
    → IsPartDone soft shape h b (t + 1) new (set left t l) next
one_more_done soft shape h b t cells new left start next w l lt part ew r el en = record {
  long = r.long;
  done = λ i li. by_place i li (cases_lt i (t * window_width shape));
  to_do = λ i le li. r.later i le li ∙ part.to_do i (not_before i (window_width shape) le) li;
  left_long = length-set left t l ∙ part.left_long;
  left_done = λ u lu. by_window u lu (cases_eq u t);
  left_to_do = λ u le. get_or-set_other left t u l none_left (λ e. absurd (omega (arith, e, le))) ∙ part.left_to_do u (omega (arith, le));
  begins = en ∙ (ap (λ (x : BordersLeft). x.forward) (part.left_to_do t (omega arith)) ∙ sym (start_border-more b t));
}
  where
    not_before : (i w : ℕ) → (t + 1) * w ≤ i → t * w ≤ i
    not_before i w le = let s : (t + 1) * w ≡ t * w + w = omega arith in omega (arith, s, le)

    within : (i w : ℕ) → t * w ≤ i → i < (t + 1) * w → i - t * w < w
    within i w le li = let s : (t + 1) * w ≡ t * w + w = omega arith in omega (arith, s, le, li)

    by_place : (i : ℕ) → i < (t + 1) * window_width shape → (i < t * window_width shape) ⊎ (t * window_width shape ≤ i)
        → cell_at new (order shape.k h i) ≡ renewed soft shape h b i
    by_place i li (inl before) = r.before i before ∙ part.done i before
    by_place i li (inr le) =
        let j : ℕ = i - t * window_width shape in
        let lj : j < window_width shape = within i (window_width shape) le li in
        let e : t * window_width shape + j ≡ i = omega (arith, le) in
        subst (λ (n : ℕ). cell_at new (order shape.k h n) ≡ renewed soft shape h b n) e
        (r.replaced j lj ∙ (ap (λ x. cell_at (new_cells x) j) ew ∙ sym (renewed-in_window soft shape h b t j lj)))

    by_window : (u : ℕ) → u < t + 1 → (u ≡ t) ⊎ (u ≡ t → ⊥) → left_by (set left t l) u ≡ left_after soft shape h b u
    by_window u lu (inl e) = rw e (get_or-set_same left t l none_left (omega (arith, part.left_long)) ∙ (el ∙ ap left_of ew))
    by_window u lu (inr ne) = get_or-set_other left t u l none_left ne ∙ part.left_done u (omega (arith, ne))

pub cells-all_done : (soft : SoftStreams) (shape : Shape) (h : ℕ) (b : Before) (cells : List Extrinsic) (left : List BordersLeft) (start : Border)
    → AreWhole shape → IsPartDone soft shape h b shape.windows cells left start → cells ≡ (after soft shape h b).cells
cells-all_done soft shape h b cells left start whole part =
    fill_by_all (λ n. renewed soft shape h b (position_of shape.k h n)) cells shape.k zero_cell part.long
    (λ n lt. let p = position-is shape.k h n whole.size lt in
    ap (cell_at cells) (sym p.1) ∙ part.done (position_of shape.k h n) (omega (arith, p.0, whole.whole)))

pub left-all_done : (soft : SoftStreams) (shape : Shape) (h : ℕ) (b : Before) (cells : List Extrinsic) (left : List BordersLeft) (start : Border)
    → IsPartDone soft shape h b shape.windows cells left start → left ≡ (after soft shape h b).left
left-all_done soft shape h b cells left start part = fill_by_all (left_after soft shape h b) left shape.windows none_left part.left_long part.left_done
