-- That the places of a window differ, and are places of the code block.
use Rattle.std.proofs.Common.{◌≡◌, ℕ, ◌+◌, ◌*◌, ◌<◌, List, length, get_or, map, sym, ◌∙◌, arith}
use Rattle.model_receiver.specs.HalfIteration.{Shape, window_width, positions, order}
use Rattle.half_iteration.specs.Views.{AreWhole}
use Rattle.half_iteration.proofs.Orders.{order-below, order-apart}
use Rattle.half_iteration.proofs.WindowParts.{length-part, place-of_window, position-inside}
use Rattle.serial_decode.proofs.StripCells.{AreApart, AreBelow}

pub places-below : (shape : Shape) (h t : ℕ) (places : List ℕ) → AreWhole shape → t < shape.windows → places ≡ map (order shape.k h) (positions shape t)
    → AreBelow shape.k places
places-below shape h t places whole lt e j lj =
    let l : j < window_width shape = omega (arith, length-part (order shape.k h) shape t places e, lj) in
    let p : get_or places j 0 ≡ order shape.k h (t * window_width shape + j) = place-of_window shape h t places j e l in
    rw p (order-below shape.k h (t * window_width shape + j) whole.size (position-inside shape t j whole lt l))

pub places-apart : (shape : Shape) (h t : ℕ) (places : List ℕ) → AreWhole shape → t < shape.windows → places ≡ map (order shape.k h) (positions shape t)
    → AreApart places
places-apart shape h t places whole lt e i j li lj same =
    let long : length places ≡ window_width shape = length-part (order shape.k h) shape t places e in
    let hi : i < window_width shape = omega (arith, long, li) in
    let hj : j < window_width shape = omega (arith, long, lj) in
    let s : t * window_width shape + i ≡ t * window_width shape + j =
    order-apart shape.k h (t * window_width shape + i) (t * window_width shape + j) whole.size
    (position-inside shape t i whole lt hi) (position-inside shape t j whole lt hj)
    (sym (place-of_window shape h t places i e hi) ∙ (same ∙ place-of_window shape h t places j e hj)) in
    cancels (t * window_width shape) s
  where
    cancels : (a : ℕ) → a + i ≡ a + j → i ≡ j
    cancels a s = omega (arith, s)
