-- What the sweeps leave at each position.
use Rattle.std.proofs.Common.{◌≡◌, ◌≢◌, ℕ, suc, ◌+◌, ◌<◌, ◌≤◌, List, [], length, map, set, get_or, ℤ, pos, ◌+ℤ◌, ◌*ℤ◌, sym, ap, ◌∙◌, subst, inl, inr, arith}
use Rattle.std.specs.Prelude.{int_lt, int_div}
use Rattle.std.specs.List.{range_with_len}
use Rattle.std.proofs.lemmas.Bool.{cases_lt}
use Rattle.std.proofs.lemmas.Int.{ints, clamps}
use Rattle.std.proofs.lemmas.List.{get_or-set_same, get_or-set_other, get_or_read, get_or_past, length-map}
use Rattle.std.proofs.lemmas.List.FromFn.{fill_by_all, get_or-map-range_with_len}
use Rattle.std.proofs.lemmas.Simd.{get_or-zip2, length-zip2}
use Rattle.lte_bits.specs.Softs.{IsWithin, clamped}
use Rattle.model_sender.specs.ConstituentCoder.{parity}
use Rattle.model_receiver.specs.Borders.{Border, IsBorder, number_for, at, if_zero}
use Rattle.model_receiver.specs.Paths.{Window, gain, width}
use Rattle.model_receiver.specs.Windows.{Extrinsic, extrinsic, cell_at, zero_cell, new_cell, new_cells, forward_left, backward_left}
use Rattle.window_decode.specs.Ranges.{IsSoft}
use Rattle.window_decode.specs.Metrics.{IsForwardRow, IsBackwardRow, IsForward, IsBackward}
use Rattle.window_decode.proofs.JoinedPaths.{forward-left, backward-left}
use Rattle.window_decode.proofs.Within.{within-same, within-sum, within-more}
use Rattle.window_decode.proofs.WindowSteps.{Earns}
use Rattle.window_rows.specs.Rows.{row_at, column, AreWithin}
use Rattle.lock_step.specs.Lanes.{border_at, lane_window, decided_cells, AreSoft}
use Rattle.lock_step.specs.Vectors.{IsSmall, AreMetrics, AreBorders, lane_gain, metrics_at, cell_of}
use Rattle.lock_step.proofs.StateRows.{at-column}
use Rattle.lock_step.proofs.Cells.{same_cell}

-- ---- what steps earn

column-within : (n b : ℕ) (rows : List (List ℤ)) (t j : ℕ) → t < n → AreWithin n b rows → IsWithin b (at (column t rows) j)
column-within n b rows t j lt h =
    elim (cases_lt j (length rows)) [
      | inl inside ↦ within-same b _ _ (at-column rows t j inside) (h j t inside lt)
      | inr past ↦ within-same b _ (pos 0) (get_or_past (column t rows) j (pos 0) (let e = length-map rows (λ (row : List ℤ). at row t) in omega (arith, e, past))) nothing
    ]
  where
    nothing : IsWithin b (pos 0)
    nothing = (omega (arith, ints), omega (arith, ints))

pub lane-soft : (n t : ℕ) (start end : Border) (sys par cells : List (List ℤ)) → t < n → AreSoft n sys par cells → IsSoft (lane_window t start end sys par cells)
lane-soft n t start end sys par cells lt soft = record {
  systematic = λ j. column-within n 127 sys t j lt soft.systematic;
  parity = λ j. column-within n 127 par t j lt soft.parity;
  cells = λ j. column-within n 511 cells t j lt soft.extrinsic;
}

-- x and p are what input and parity bits 0 earn in lane t at position j
pub lane-earns : (n t : ℕ) (sys par cells : List (List ℤ)) (j : ℕ) (x p : ℤ) → t < n → AreSoft n sys par cells → j < length sys → j < length par → j < length cells
    → x ≡ at (row_at sys j) t +ℤ at (row_at cells j) t → p ≡ at (row_at par j) t → Earns (lane_gain t sys par cells) j x p
lane-earns n t sys par cells j x p lt soft ls lp lc e f =
    let input : at (column t sys) j +ℤ at (column t cells) j ≡ x = ap (λ z. z +ℤ at (column t cells) j) (at-column sys t j ls)
    ∙ (ap (λ z. at (row_at sys j) t +ℤ z) (at-column cells t j lc) ∙ sym e) in
    let own : at (column t par) j ≡ p = at-column par t j lp ∙ sym f in
    record {
      is = λ s u. ap (λ z. if_zero u z +ℤ if_zero (parity s u) (at (column t par) j)) input ∙ ap (λ z. if_zero u x +ℤ if_zero (parity s u) z) own;
      input = within-same 638 x _ e (within-sum 127 511 _ _ (soft.systematic j t ls lt) (soft.extrinsic j t lc lt));
      parity = within-same 127 p _ f (soft.parity j t lp lt);
    }

-- a row that was read
pub row-read : (rows : List (List ℤ)) (j : ℕ) (row : List ℤ) → j < length rows → row ≡ get_or rows j row → row ≡ row_at rows j
row-read rows j row inside is = get_or_read rows j row inside is []

pub metrics-read : (rows : List (List (List ℤ))) (j : ℕ) (row : List (List ℤ)) → j < length rows → row ≡ get_or rows j row → row ≡ metrics_at rows j
metrics-read rows j row inside is = get_or_read rows j row inside is []

pub read-small : (n b c : ℕ) (rows : List (List ℤ)) (j : ℕ) (row : List ℤ) → b ≤ c → j < length rows → AreWithin n b rows → row ≡ row_at rows j → IsSmall n c row
read-small n b c rows j row le inside h e t lt = within-more b c _ le (within-same b _ _ (ap (λ (xs : List ℤ). at xs t) e) (h j t inside lt))

-- ---- rows that are written in turn

apart : (i j : ℕ) → i < j → i ≢ j
apart i j lt e = omega (arith, lt, e)

-- what holds of the rows before j, and of a new row j, holds up to it
pub set-more : (P : ℕ → List (List ℤ) → Type 0) (rows : List (List (List ℤ))) (j : ℕ) (row : List (List ℤ)) → j < length rows → ((i : ℕ) → i < j → P i (metrics_at rows i)) → P j row
    → (i : ℕ) → i < j + 1 → P i (metrics_at (set rows j row) i)
set-more P rows j row inside h here i lt =
    elim (cases_lt i j) [
      | inl below ↦ subst (λ m. P i m) (sym (get_or-set_other rows j i row [] (apart i j below))) (h i below)
      | inr upto ↦ (let e : j ≡ i = omega (arith, lt, upto) in subst (λ k. P k (metrics_at (set rows j row) k)) e (subst (λ m. P j m) (sym (get_or-set_same rows j row [] inside)) here))
    ]

-- the rows from the last i positions are new
pub kept-more : (old rows : List (List ℤ)) (n i j : ℕ) (row : List ℤ) → j + suc i ≡ n → ((k : ℕ) → k + i < n → row_at rows k ≡ row_at old k) → (k : ℕ)
    → k + (i + 1) < n → row_at (set rows j row) k ≡ row_at old k
kept-more old rows n i j row place h k lt = get_or-set_other rows j k row [] (λ e. omega (arith, lt, e, place)) ∙ h k (omega (arith, lt))

-- the sums of position j, and those after it
pub small-more : (m : ℕ) (sums : List (List ℤ)) (n i j : ℕ) (sum : List ℤ) → j + suc i ≡ n → length sums ≡ n
    → ((k t : ℕ) → n ≤ k + i → k < n → t < m → IsWithin 32767 (at (row_at sums k) t)) → IsSmall m 32767 sum
    → (k t : ℕ) → n ≤ k + (i + 1) → k < n → t < m → IsWithin 32767 (at (row_at (set sums j sum) k) t)
small-more m sums n i j sum place long h here k t le below lt =
    elim (cases_lt j k) [
      | inl after ↦ subst (λ (xs : List ℤ). IsWithin 32767 (at xs t)) (sym (get_or-set_other sums j k sum [] (λ e. omega (arith, after, e)))) (h k t (omega (arith, after, place)) below lt)
      | inr upto ↦ (
          let e : j ≡ k = omega (arith, upto, le, place) in
          subst (λ (p : ℕ). IsWithin 32767 (at (row_at (set sums j sum) p) t)) e
          (subst (λ (xs : List ℤ). IsWithin 32767 (at xs t)) (sym (get_or-set_same sums j sum [] (omega (arith, place, long)))) (here t lt)))
    ]

-- the new cell of position j, and those after it
pub renewed-more : (w : Window) (t : ℕ) (cells sums : List (List ℤ)) (n i j : ℕ) (cell sum : List ℤ) → j + suc i ≡ n → length cells ≡ n → length sums ≡ n
    → ((k : ℕ) → n ≤ k + i → k < n → cell_of t cells sums k ≡ new_cell w k) → cell_of t (set cells j cell) (set sums j sum) j ≡ new_cell w j
    → (k : ℕ) → n ≤ k + (i + 1) → k < n → cell_of t (set cells j cell) (set sums j sum) k ≡ new_cell w k
renewed-more w t cells sums n i j cell sum place lc ls h here k le lt =
    elim (cases_lt j k) [
      | inl after ↦ other_of after ∙ h k (omega (arith, after, place)) lt
      | inr upto ↦ (let e : j ≡ k = omega (arith, upto, le, place) in subst (λ m. cell_of t (set cells j cell) (set sums j sum) m ≡ new_cell w m) e here)
    ]
  where
    beyond : j < k → k ≢ j
    beyond lt e = omega (arith, lt, e)

    other_of : j < k → cell_of t (set cells j cell) (set sums j sum) k ≡ cell_of t cells sums k
    other_of after =
        same_cell _ _ _ _ (ap (λ (xs : List ℤ). at xs t) (get_or-set_other cells j k cell [] (beyond after)))
        (ap (λ (xs : List ℤ). int_lt (at xs t) (pos 0)) (get_or-set_other sums j k sum [] (beyond after)))

-- the cell that was written
pub cell-set : (t : ℕ) (cells sums : List (List ℤ)) (j : ℕ) (cell sum : List ℤ) (v : Extrinsic) → j < length cells → j < length sums
    → (let c : Extrinsic = record { value = at cell t; one = int_lt (at sum t) (pos 0) } in c) ≡ v → cell_of t (set cells j cell) (set sums j sum) j ≡ v
cell-set t cells sums j cell sum v lc ls e =
    same_cell _ _ _ _ (ap (λ (xs : List ℤ). at xs t) (get_or-set_same cells j cell [] lc)) (ap (λ (xs : List ℤ). int_lt (at xs t) (pos 0)) (get_or-set_same sums j sum [] ls)) ∙ e

-- the cells of a lane
abbrev make : ℤ → ℤ → Extrinsic
make v s = record { value = v; one = int_lt s (pos 0) }

decided_at : (t : ℕ) (cells sums : List (List ℤ)) (n : ℕ) → length cells ≡ n → length sums ≡ n
    → (length (decided_cells (column t cells) (column t sums)) ≡ n) × ((k : ℕ) → k < n → cell_at (decided_cells (column t cells) (column t sums)) k ≡ cell_of t cells sums k)
decided_at t cells sums n lc ls = (long, place)
  where
    lanes : (rows : List (List ℤ)) → length (column t rows) ≡ length rows
    lanes rows = length-map rows (λ (row : List ℤ). at row t)

    long : length (decided_cells (column t cells) (column t sums)) ≡ n
    long = length-zip2 make (column t cells) (column t sums) (lanes cells ∙ (lc ∙ sym (lanes sums ∙ ls))) ∙ (lanes cells ∙ lc)

    place : (k : ℕ) → k < n → cell_at (decided_cells (column t cells) (column t sums)) k ≡ cell_of t cells sums k
    place k lt =
        get_or-zip2 make (column t cells) (column t sums) k (pos 0) (pos 0) zero_cell
        (let e = lanes cells in omega (arith, lt, lc, e)) (let e = lanes sums in omega (arith, lt, ls, e))
        ∙ same_cell _ _ _ _ (at-column cells t k (omega (arith, lt, lc))) (ap (λ z. int_lt z (pos 0)) (at-column sums t k (omega (arith, lt, ls))))

-- all cells of a lane
pub decided-all : (w : Window) (t : ℕ) (cells sums : List (List ℤ)) (n : ℕ) → width w ≡ n → length cells ≡ n → length sums ≡ n → ((k : ℕ) → k < n → cell_of t cells sums k ≡ new_cell w k)
    → decided_cells (column t cells) (column t sums) ≡ new_cells w
unfolding new_cells
decided-all w t cells sums n same lc ls h =
    let d = decided_at t cells sums n lc ls in
    subst (λ m. decided_cells (column t cells) (column t sums) ≡ map (new_cell w) (range_with_len 0 m)) (sym same)
    (fill_by_all (new_cell w) (decided_cells (column t cells) (column t sums)) n zero_cell d.0 (λ k lt. d.1 k lt ∙ h k lt))

new_cell_at : (w : Window) (k : ℕ) → k < width w → cell_at (new_cells w) k ≡ new_cell w k
unfolding new_cells
new_cell_at w k lt = get_or-map-range_with_len (new_cell w) 0 (width w) k k zero_cell lt (let e : 0 + k ≡ k = omega arith in e)

-- new cells are clamped
pub new-within : (n len : ℕ) (w : ℕ → Window) (cells sums : List (List ℤ)) → length cells ≡ len → length sums ≡ len → ((t : ℕ) → width (w t) ≡ len)
    → ((t : ℕ) → t < n → decided_cells (column t cells) (column t sums) ≡ new_cells (w t)) → AreWithin n 511 cells
new-within n len w cells sums lc ls same h = λ j t inside lt.
    let below : j < len = omega (arith, inside, lc) in
    let is : cell_of t cells sums j ≡ new_cell (w t) j =
    sym ((decided_at t cells sums len lc ls).1 j below) ∙ (ap (λ (cs : List Extrinsic). cell_at cs j) (h t lt) ∙ new_cell_at (w t) j (let e = same t in omega (arith, below, e))) in
    within-same 511 _ _ (ap (λ (c : Extrinsic). c.value) is) (clamped-within (int_div (pos 3 *ℤ extrinsic (w t) j) (pos 4)))
  where
    clamped-within : (y : ℤ) → IsWithin 511 (clamped 511 y)
    clamped-within y = (omega (arith, ints, clamps), omega (arith, ints, clamps))

-- ---- the ends

-- metrics that are borders
pub borders_from : (n : ℕ) (m : List (List ℤ)) (borders : List Border) → AreMetrics n m → ((t : ℕ) → t < n → column t m ≡ border_at borders t)
    → ((t : ℕ) → t < n → IsBorder (border_at borders t)) → AreBorders n m
borders_from n m borders shape lanes h = record { shape = shape; border = λ t lt. subst (λ (b : Border). IsBorder b) (sym (lanes t lt)) (h t lt) }

pub width-column : (rows : List (List ℤ)) (t n : ℕ) → length rows ≡ n → n ≡ length (column t rows)
width-column rows t n e = sym (length-map rows (λ (row : List ℤ). at row t) ∙ e)

pub forward-end : (w : Window) (n : ℕ) (row : List ℤ) → n ≡ width w → IsForwardRow w.start (gain w) n row → row ≡ forward_left w
forward-end w n row e h = h.is ∙ forward-left w h.metrics (subst (λ n. IsForward (number_for w.start) (gain w) n h.metrics) e h.greatest)

pub backward-end : (w : Window) (n : ℕ) (row : List ℤ) → n ≡ width w → IsBackwardRow w.end (gain w) 0 n row → row ≡ backward_left w
backward-end w n row e h = h.is ∙ backward-left w h.metrics (subst (λ n. IsBackward (number_for w.end) (gain w) 0 n h.metrics) e h.greatest)
