-- What a window's decoding leaves of the cells of all places.
use Rattle.std.proofs.Common.{◌≡◌, ◌≢◌, ℕ, ℤ, ◌+◌, ◌*◌, ◌<◌, ◌≤◌, List, length, get_or, map, sym, ap, ◌∙◌, arith}
use Rattle.lte_bits.specs.declared.block.SoftStreams.{SoftStreams}
use Rattle.model_receiver.specs.Borders.{Border}
use Rattle.model_receiver.specs.Paths.{Window}
use Rattle.model_receiver.specs.Windows.{Extrinsic, window_between, cell_at, new_cells}
use Rattle.model_receiver.specs.HalfIteration.{Shape, window_width, positions, order, systematic_at, parity_at}
use Rattle.half_iteration.specs.Runs.{window_from, IsReplaced}
use Rattle.serial_decode.specs.Strips.{cells_at, elsewhere}
use Rattle.half_iteration.specs.Views.{AreWhole}
use Rattle.half_iteration.proofs.Orders.{order-apart}
use Rattle.serial_decode.proofs.StripCells.{cell-of_window, cell-elsewhere, length-elsewhere}
use Rattle.half_iteration.proofs.WindowParts.{length-part, place-of_window, position-inside}
use Rattle.half_iteration.proofs.ViewLists.{map-of_map}

pub strip_window-is : (soft : SoftStreams) (shape : Shape) (h t : ℕ) (start end : Border) (sys par : List ℤ) (places : List ℕ) (old cells : List Extrinsic)
    → sys ≡ map (systematic_at soft shape.k h) (positions shape t) → par ≡ map (parity_at soft h) (positions shape t)
    → places ≡ map (order shape.k h) (positions shape t) → cells ≡ old
    → window_between start end sys par (cells_at places cells) ≡ window_from soft shape h t start end old
strip_window-is soft shape h t start end sys par places old cells es ep eo ec =
    ap (λ xs. window_between start end xs par (cells_at places cells)) es
    ∙ (ap (λ xs. window_between start end (map (systematic_at soft shape.k h) (positions shape t)) xs (cells_at places cells)) ep
    ∙ ap (λ xs. window_between start end (map (systematic_at soft shape.k h) (positions shape t)) (map (parity_at soft h) (positions shape t)) xs)
    (ap (λ xs. cells_at places xs) ec ∙ (ap (λ ps. cells_at ps old) eo ∙ map-of_map (cell_at old) (order shape.k h) (positions shape t))))

-- a cell at no place of the window stays
other-stays : (places more : List ℕ) (old new : List Extrinsic) (n : ℕ) → more ≡ places → elsewhere more new ≡ elsewhere places old
    → ((j : ℕ) → j < length places → n ≢ get_or places j 0) → cell_at new n ≡ cell_at old n
other-stays places more old new n em e far =
    sym (cell-elsewhere places new n far)
    ∙ (ap (λ cells. cell_at cells n) (ap (λ ps. elsewhere ps new) (sym em) ∙ e) ∙ cell-elsewhere places old n far)

pub replaced : (shape : Shape) (h t : ℕ) (w : Window) (places more : List ℕ) (old new : List Extrinsic) → AreWhole shape → t < shape.windows
    → places ≡ map (order shape.k h) (positions shape t) → length old ≡ shape.k → more ≡ places
    → cells_at more new ≡ new_cells w → elsewhere more new ≡ elsewhere places old → IsReplaced shape h t w old new
replaced shape h t w places more old new whole lt eo long em ec ee =
    let wide : length places ≡ window_width shape = length-part (order shape.k h) shape t places eo in
    record {
      long = sym (length-elsewhere more new) ∙ (ap length ee ∙ (length-elsewhere places old ∙ long));
      replaced = λ j lj.
          ap (cell_at new) (sym (place-of_window shape h t places j eo lj))
          ∙ (sym (cell-of_window places new j (omega (arith, wide, lj)))
          ∙ ap (λ cells. cell_at cells j) (ap (λ ps. cells_at ps new) (sym em) ∙ ec));
      before = λ i li. other-stays places more old new (order shape.k h i) em ee (λ j lj.
          let l : j < window_width shape = omega (arith, wide, lj) in
          apart i j l (omega (arith, position-inside shape t j whole lt l, li)) (not_before i j (window_width shape) li));
      later = λ i le li. other-stays places more old new (order shape.k h i) em ee (λ j lj.
          let l : j < window_width shape = omega (arith, wide, lj) in
          apart i j l li (not_later i j (window_width shape) l le));
    }
  where
    apart : (i j : ℕ) → j < window_width shape → i < shape.k → (i ≡ t * window_width shape + j → ⊥) → order shape.k h i ≢ get_or places j 0
    apart i j l li ne = λ e. ne (order-apart shape.k h i (t * window_width shape + j) whole.size li (position-inside shape t j whole lt l)
        (e ∙ place-of_window shape h t places j eo l))

    not_before : (i j w : ℕ) → i < t * w → i ≡ t * w + j → ⊥
    not_before i j w lt e = omega (arith, e)

    not_later : (i j w : ℕ) → j < w → (t + 1) * w ≤ i → i ≡ t * w + j → ⊥
    not_later i j w lt le e = let s : (t + 1) * w ≡ t * w + w = omega arith in omega (arith, e, s)
