-- What a half starts from and leaves, window by window.
use Rattle.std.proofs.Common.{◌≡◌, ℕ, zero, suc, ◌+◌, ◌*◌, ◌<◌, List, length, map, refl, sym, ap, ◌∙◌, arith}
use Rattle.std.specs.List.{range_with_len}
use Rattle.std.proofs.lemmas.List.{ext_get_or, length-map, length-replicate}
use Rattle.std.proofs.lemmas.List.FromFn.{length-map-range_with_len, get_or-map-range_with_len}
use Rattle.lte_bits.specs.declared.block.SoftStreams.{SoftStreams}
use Rattle.model_receiver.specs.Paths.{Window, width}
use Rattle.model_receiver.specs.Windows.{Extrinsic, zero_cell, cell_at, new_cell, new_cells}
use Rattle.model_receiver.specs.HalfIteration.{Shape, Before, none_left, window_width, order, position_of, cells_in, window, renewed, left_after}
use Rattle.model_receiver.specs.Decoding.{before}
use Rattle.model_receiver.proofs.PlacesOfPositions.{order-apart, position-back}
use Rattle.half_iteration.specs.Views.{AreWhole}
use Rattle.half_iteration.proofs.HalfSteps.{renewed-in_window}
use Rattle.half_iteration.proofs.Stopping.{before-none, before-more}
use Rattle.half_iteration.proofs.WindowParts.{position-inside}

pub new_cells-long : (w : Window) → length (new_cells w) ≡ width w
unfolding new_cells
new_cells-long w = length-map-range_with_len (new_cell w) 0 (width w)

module _ (soft : SoftStreams) (shape : Shape) where
  pub cells-long : (h : ℕ) → length (before soft shape h).cells ≡ shape.k
  cells-long zero = ap (λ (b : Before). length b.cells) (before-none soft shape) ∙ length-replicate shape.k zero_cell
  cells-long (suc h) =
      ap (λ (b : Before). length b.cells) (before-more soft shape h (suc h) refl)
      ∙ length-map-range_with_len (λ n. renewed soft shape h (before soft shape h) (position_of shape.k h n)) 0 shape.k

  pub left-long : (h : ℕ) → length (before soft shape h).left ≡ shape.windows
  left-long zero = ap (λ (b : Before). length b.left) (before-none soft shape) ∙ length-replicate shape.windows none_left
  left-long (suc h) =
      ap (λ (b : Before). length b.left) (before-more soft shape h (suc h) refl)
      ∙ length-map-range_with_len (left_after soft shape h (before soft shape h)) 0 shape.windows

  -- the borders of two halves ago are those of the half before that the earlier half had
  pub left-earlier : (h : ℕ) → (before soft shape (suc h)).left_before_last ≡ (before soft shape h).left
  left-earlier h = ap (λ (b : Before). b.left_before_last) (before-more soft shape h (suc h) refl)

  pub left-is : (h : ℕ) → (before soft shape (suc h)).left ≡ map (left_after soft shape h (before soft shape h)) (range_with_len 0 shape.windows)
  left-is h = ap (λ (b : Before). b.left) (before-more soft shape h (suc h) refl)

  cells-is : (h : ℕ) → (before soft shape (suc h)).cells ≡ map (λ n. renewed soft shape h (before soft shape h) (position_of shape.k h n)) (range_with_len 0 shape.k)
  cells-is h = ap (λ (b : Before). b.cells) (before-more soft shape h (suc h) refl)

  module _ (h t : ℕ) (whole : AreWhole shape) (lt : t < shape.windows) where
    pub cells_in-long : (b : Before) (g : ℕ) → length (cells_in shape g b t) ≡ window_width shape
    cells_in-long b g = length-map-range_with_len (λ i. cell_at b.cells (order shape.k g i)) (t * window_width shape) (window_width shape)

    -- the cell that half h leaves at position j of window t
    left_at : (j : ℕ) → j < window_width shape
        → cell_at (before soft shape (suc h)).cells (order shape.k h (t * window_width shape + j)) ≡ cell_at (new_cells (window soft shape h (before soft shape h) t)) j
    left_at j lj =
        let i : ℕ = t * window_width shape + j in
        let li : i < shape.k = position-inside shape t j whole lt lj in
        let apart = order-apart shape.k h whole.size in
        let f : ℕ → Extrinsic = λ n. renewed soft shape h (before soft shape h) (position_of shape.k h n) in
        ap (λ (cs : List Extrinsic). cell_at cs (order shape.k h i)) (cells-is h)
        ∙ (get_or-map-range_with_len f 0 shape.k (order shape.k h i) (order shape.k h i) zero_cell (apart.below i li) (let z : 0 + order shape.k h i ≡ order shape.k h i = omega arith in z)
        ∙ (ap (renewed soft shape h (before soft shape h)) (position-back shape.k h i whole.size li)
        ∙ renewed-in_window soft shape h (before soft shape h) t j lj))

    -- the cells that half h leaves at window t are the new cells of that window
    pub cells-left : cells_in shape h (before soft shape (suc h)) t ≡ new_cells (window soft shape h (before soft shape h) t)
    cells-left =
        let b = before soft shape h in let w = window soft shape h b t in
        let wide : length (new_cells w) ≡ window_width shape = new_cells-long w ∙ (length-map (cells_in shape h b t) (λ c. c.value) ∙ cells_in-long b h) in
        ext_get_or zero_cell _ _ (cells_in-long (before soft shape (suc h)) h ∙ sym wide)
        (λ j lj. let lw : j < window_width shape = omega (arith, cells_in-long (before soft shape (suc h)) h, lj) in
        get_or-map-range_with_len (λ i. cell_at (before soft shape (suc h)).cells (order shape.k h i)) (t * window_width shape) (window_width shape) j
        (t * window_width shape + j) zero_cell lw refl
        ∙ left_at j lw)
