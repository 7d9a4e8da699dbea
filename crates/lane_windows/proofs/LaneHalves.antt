-- Halves of a code block whose windows run in lock step.
use Rattle.std.proofs.Common.{◌≡◌, ℕ, ◌+◌, ◌*◌, ◌/◌, ◌%◌, ◌<◌, ◌≤◌, ◌==◌, ℤ, pos, Bool, cond, List, [], length, map, sym, ap, ◌∙◌, subst, arith}
use Rattle.std.specs.List.{range_with_len}
use Rattle.std.proofs.Math.Nat.{mul-le-mul_left}
use Rattle.std.proofs.lemmas.List.FromFn.{fill_by_all, get_or-map-range_with_len}
use Rattle.std.proofs.lemmas.Nat.{div_below, mod_below, div-add-mod'}
use Rattle.lte_bits.specs.declared.block.SoftStreams.{SoftStreams}
use Rattle.model_sender.specs.Interleaver.{place}
use Rattle.model_receiver.specs.Borders.{Border, at}
use Rattle.model_receiver.specs.Windows.{Extrinsic, zero_cell, cell_at, new_cells, forward_left, backward_left}
use Rattle.model_receiver.specs.HalfIteration.{Shape, BordersLeft, window_width, positions, order, position_of, tail_border, left_by, start_border, window, renewed, left_after, after}
use Rattle.model_receiver.proofs.PlacesOfPositions.{position-is}
use Rattle.half_iteration.specs.Runs.{start_of, window_from}
use Rattle.half_iteration.specs.Views.{AreWhole, by_position}
use Rattle.half_iteration.proofs.HalfSteps.{same-by_range}
use Rattle.half_iteration.proofs.WindowParts.{position-inside}
use Rattle.window_rows.specs.Rows.{column, values_of_window}
use Rattle.lock_step.specs.declared.inputs.BordersIn.{BordersIn}
use Rattle.lock_step.specs.declared.inputs.SoftRows.{SoftRows}
use Rattle.lock_step.specs.Lanes.{border_at, AreSoftRows}
use Rattle.lane_windows.specs.Lanes.{cells_of_window, window_of_rows, HaveRun}
use Rattle.lane_windows.specs.Halves.{AreRowsOf, HaveRunHalf}

-- the values of a window, of all values by position
pub values-of_half : (shape : Shape) (f : ℕ → ℤ) (values : List ℤ) (t : ℕ) → AreWhole shape → t < shape.windows → values ≡ by_position shape f
    → values_of_window (window_width shape) values t ≡ map f (positions shape t)
values-of_half shape f values t whole lt e =
    same-by_range (at values) f (t * window_width shape) (window_width shape) (pos 0)
    (λ i li. ap (λ (xs : List ℤ). at xs (t * window_width shape + i)) e
    ∙ get_or-map-range_with_len f 0 shape.k (t * window_width shape + i) (t * window_width shape + i) (pos 0) (position-inside shape t i whole lt li) (omega arith))

-- the halves of one order read the same rows
pub rows-of_order : (n : ℕ) (soft : SoftStreams) (shape : Shape) (g h : ℕ) (sys par : List (List ℤ)) → (h % 2 == 0) ≡ (g % 2 == 0)
    → AreRowsOf n soft shape g sys par → AreRowsOf n soft shape h sys par
rows-of_order n soft shape g h sys par e rows = record {
  systematic_long = rows.systematic_long;
  parity_long = rows.parity_long;
  systematic = λ t lt. subst (λ (b : Bool). column t sys ≡ map (λ i. at soft.d0 (cond b i (place shape.k i))) (positions shape t)) (sym e) (rows.systematic t lt);
  parity = λ t lt. subst (λ (b : Bool). column t par ≡ map (λ i. cond b (at soft.d1 i) (at soft.d2 i)) (positions shape t)) (sym e) (rows.parity t lt);
  systematic_soft = rows.systematic_soft;
  parity_soft = rows.parity_soft;
}

pub half-ran : (n : ℕ) (soft : SoftStreams) (shape : Shape) (h w : ℕ) (f : ℕ → ℕ) (borders : BordersIn) (read : SoftRows n) (old new : List Extrinsic) (alpha_out beta_out : List Border)
    → AreRowsOf n soft shape h read.systematic.now read.parity.now → w ≡ window_width shape → ((i : ℕ) → f i ≡ order shape.k h i)
    → HaveRun w f borders read old new alpha_out beta_out → HaveRunHalf n soft shape h borders.alpha.now borders.beta.now old new alpha_out beta_out
half-ran n soft shape h w f borders read old new alpha_out beta_out rows ew ef ran = record {
  long = ran.long;
  cells = λ t lt. sym (same-cells new t) ∙ (ran.cells t lt ∙ ap new_cells (same-window t lt));
  forward = λ t lt. ran.forward t lt ∙ ap forward_left (same-window t lt);
  backward = λ t lt. ran.backward t lt ∙ ap backward_left (same-window t lt);
}
  where
    same-cells : (cells : List Extrinsic) (t : ℕ) → cells_of_window w f cells t ≡ cells_of_window (window_width shape) (order shape.k h) cells t
    same-cells cells t =
        ap (λ (k : ℕ). cells_of_window k f cells t) ew
        ∙ same-by_range (λ i. cell_at cells (f i)) (λ i. cell_at cells (order shape.k h i)) (t * window_width shape) (window_width shape) zero_cell
        (λ i li. ap (cell_at cells) (ef (t * window_width shape + i)))

    same-window : (t : ℕ) → t < n → window_of_rows w f borders read old t ≡ window_from soft shape h t (border_at borders.alpha.now t) (border_at borders.beta.now t) old
    same-window t lt = λ i. record {
      start = border_at borders.alpha.now t;
      end = border_at borders.beta.now t;
      sys = rows.systematic t lt i;
      par = rows.parity t lt i;
      cells = map (λ c. c.value) (same-cells old t i);
    }

-- ---- the windows of a half that starts from cells and borders

module _ (soft : SoftStreams) (shape : Shape) (h : ℕ) (old : List Extrinsic) (left : List BordersLeft) (alpha_in beta_in : List Border)
    (whole : AreWhole shape) (many : length left ≡ shape.windows)
    (starts : (t : ℕ) → t < length left → border_at alpha_in t ≡ start_border (start_of [] left) t)
    (ends : (t : ℕ) → t < length left → border_at beta_in t ≡ cond (t + 1 == length left) (tail_border soft shape.k h) (left_by left (t + 1)).backward) where
  window-between_borders : (t : ℕ) → t < shape.windows
      → window_from soft shape h t (border_at alpha_in t) (border_at beta_in t) old ≡ window soft shape h (start_of old left) t
  window-between_borders t lt =
      let l : t < length left = omega (arith, many, lt) in
      ap (λ (b : Border). window_from soft shape h t b (border_at beta_in t) old) (starts t l)
      ∙ ap (λ (b : Border). window_from soft shape h t (start_border (start_of old left) t) b old)
      (ends t l ∙ ap (λ (k : ℕ). cond (t + 1 == k) (tail_border soft shape.k h) (left_by left (t + 1)).backward) many)

  module _ (new : List Extrinsic) (alpha_out beta_out : List Border) (ran : HaveRunHalf shape.windows soft shape h alpha_in beta_in old new alpha_out beta_out) where
    cell-renewed : (i : ℕ) → i < shape.k → cell_at new (order shape.k h i) ≡ renewed soft shape h (start_of old left) i
    cell-renewed i lt =
        let w : ℕ = window_width shape in
        let some : 0 < w = omega (arith, whole.wide) in
        let t : ℕ = i / w in let j : ℕ = i % w in
        let lj : j < w = mod_below i w some in
        let lt2 : t < shape.windows = div_below i w shape.windows some (omega (arith, lt, whole.whole)) in
        let e : t * w + j ≡ i = div-add-mod' i w in
        sym (get_or-map-range_with_len (λ i. cell_at new (order shape.k h i)) (t * w) w j i zero_cell lj e)
        ∙ ap (λ (cells : List Extrinsic). cell_at cells j) (ran.cells t lt2 ∙ ap new_cells (window-between_borders t lt2))

    pub cells-after : length old ≡ shape.k → new ≡ (after soft shape h (start_of old left)).cells
    cells-after long =
        fill_by_all (λ n. renewed soft shape h (start_of old left) (position_of shape.k h n)) new shape.k zero_cell (ran.long ∙ long)
        (λ n lt. let p = position-is shape.k h n whole.size lt in
        ap (cell_at new) (sym p.1) ∙ cell-renewed (position_of shape.k h n) p.0)

    pub left-after : (more : List BordersLeft) → more ≡ map (λ t. record { forward = border_at alpha_out t; backward = border_at beta_out t }) (range_with_len 0 (length left))
        → more ≡ (after soft shape h (start_of old left)).left
    left-after more e =
        e ∙ (ap (λ (k : ℕ). map left_of (range_with_len 0 k)) many
        ∙ same-by_range left_of (left_after soft shape h (start_of old left)) 0 shape.windows (left_of 0)
        (λ t lt. same t lt))
      where
        left_of : ℕ → BordersLeft
        left_of t = record { forward = border_at alpha_out t; backward = border_at beta_out t }

        same : (t : ℕ) → t < shape.windows → left_of (0 + t) ≡ left_after soft shape h (start_of old left) (0 + t)
        same t lt = let z : t ≡ 0 + t = omega arith in subst (λ (k : ℕ). left_of k ≡ left_after soft shape h (start_of old left) k) z (λ i. record {
          forward = (ran.forward t lt ∙ ap forward_left (window-between_borders t lt)) i;
          backward = (ran.backward t lt ∙ ap backward_left (window-between_borders t lt)) i;
        })

-- rows as they are read
pub rows-read : (n : ℕ) (soft : SoftStreams) (shape : Shape) (h : ℕ) (sys par : List (List ℤ)) (read : SoftRows n) → read.systematic.now ≡ sys → read.parity.now ≡ par
    → AreRowsOf n soft shape h sys par → AreRowsOf n soft shape h read.systematic.now read.parity.now
rows-read n soft shape h sys par read es ep rows =
    subst (λ (xs : List (List ℤ)). AreRowsOf n soft shape h xs read.parity.now) (sym es) (subst (λ (xs : List (List ℤ)). AreRowsOf n soft shape h sys xs) (sym ep) rows)

pub rows-soft : (n : ℕ) (soft : SoftStreams) (shape : Shape) (h w : ℕ) (read : SoftRows n) → w ≡ window_width shape → AreRowsOf n soft shape h read.systematic.now read.parity.now
    → AreSoftRows w read
rows-soft n soft shape h w read e rows = record {
  systematic_long = rows.systematic_long ∙ sym e;
  parity_long = rows.parity_long ∙ sym e;
  systematic = rows.systematic_soft;
  parity = rows.parity_soft;
}

-- windows of a code block that are 8 or more
pub narrow : (n w k : ℕ) → n * w ≡ k → 8 ≤ n → k ≤ 6144 → w ≤ 768
narrow n w k e least most = let le : w * 8 ≤ w * n = mul-le-mul_left w least in let c : w * n ≡ n * w = omega arith in omega (arith, le, c, e, most)

pub covers : (shape : Shape) (n w : ℕ) → AreWhole shape → shape.windows ≡ n → w ≡ window_width shape → n * w ≡ shape.k
covers shape n w whole en ew = ap (λ (x : ℕ). n * x) ew ∙ (ap (λ (x : ℕ). x * window_width shape) (sym en) ∙ whole.whole)
