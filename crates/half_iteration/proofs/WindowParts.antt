-- The part of a list by position that a window takes, and the places of a window.
use Rattle.std.proofs.Common.{◌≡◌, ℕ, suc, ◌+◌, ◌*◌, ◌<◌, ◌≤◌, List, length, get_or, map, take, drop, sym, ap, ◌∙◌, arith}
use Rattle.std.specs.List.{range_with_len}
use Rattle.std.proofs.Math.Nat.{mul-le-mul_left}
use Rattle.std.proofs.lemmas.List.FromFn.{length-map-range_with_len, get_or-map-range_with_len}
use Rattle.model_receiver.specs.HalfIteration.{Shape, window_width, positions, order}
use Rattle.half_iteration.specs.Views.{by_position, AreWhole}
use Rattle.half_iteration.proofs.Parts.{part-by_position}

pub window_within : (m w k t : ℕ) → m * w ≡ k → t < m → t * w + w ≤ k
window_within m w k t e lt =
    let le : w * suc t ≤ w * m = mul-le-mul_left w (let h : suc t ≤ m = omega arith in h) in
    let a : w * suc t ≡ t * w + w = omega arith in
    let c : w * m ≡ m * w = omega arith in
    omega (arith, le, a, c, e)

pub part-is : {X : Type 0} (f : ℕ → X) (shape : Shape) (t w : ℕ) (d : X) (all part : List X) → w ≡ window_width shape → shape.windows * w ≡ shape.k
    → t < shape.windows → all ≡ by_position shape f → part ≡ take w (drop (t * w) all) → part ≡ map f (positions shape t)
part-is f shape t w d all part ew whole lt ea ep =
    ep ∙ (ap (λ xs. take w (drop (t * w) xs)) ea
    ∙ (part-by_position f shape.k (t * w) w d (window_within shape.windows w shape.k t whole lt)
    ∙ ap (λ (n : ℕ). map f (range_with_len (t * n) n)) ew))

pub part-fits : {X : Type 0} (f : ℕ → X) (shape : Shape) (t w : ℕ) (all : List X) → shape.windows * w ≡ shape.k → t < shape.windows
    → all ≡ by_position shape f → t * w + w ≤ length all
part-fits f shape t w all whole lt ea =
    let e : length all ≡ shape.k = ap length ea ∙ length-map-range_with_len f 0 shape.k in
    omega (arith, window_within shape.windows w shape.k t whole lt, e)

pub length-part : {X : Type 0} (f : ℕ → X) (shape : Shape) (t : ℕ) (part : List X) → part ≡ map f (positions shape t) → length part ≡ window_width shape
length-part f shape t part e = ap length e ∙ length-map-range_with_len f (t * window_width shape) (window_width shape)

-- ---- the places of a window

pub place-of_window : (shape : Shape) (h t : ℕ) (places : List ℕ) (j : ℕ) → places ≡ map (order shape.k h) (positions shape t) → j < window_width shape
    → get_or places j 0 ≡ order shape.k h (t * window_width shape + j)
place-of_window shape h t places j e lt =
    ap (λ (xs : List ℕ). get_or xs j 0) e
    ∙ get_or-map-range_with_len (order shape.k h) (t * window_width shape) (window_width shape) j (t * window_width shape + j) 0 lt (omega arith)

pub position-inside : (shape : Shape) (t j : ℕ) → AreWhole shape → t < shape.windows → j < window_width shape → t * window_width shape + j < shape.k
position-inside shape t j whole lt lj = inside (window_width shape) whole.whole lj
  where
    inside : (w : ℕ) → shape.windows * w ≡ shape.k → j < w → t * w + j < shape.k
    inside w e h = omega (arith, window_within shape.windows w shape.k t e lt, h)
