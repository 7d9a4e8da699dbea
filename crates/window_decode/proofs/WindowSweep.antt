-- The two sweeps over a window's positions: what stands after each position, and at the end.
use Rattle.std.proofs.Common.{◌≡◌, ◌≢◌, ℕ, suc, ◌+◌, ◌-◌, ◌<◌, ◌≤◌, List, [], length, map, set, get_or, ℤ, pos, ◌+ℤ◌, ◌≤ℤ◌, refl, sym, ap, ◌∙◌, subst, inl, inr, arith}
use Rattle.std.proofs.lemmas.Bool.{cases_lt}
use Rattle.std.proofs.lemmas.Int.{ints}
use Rattle.std.proofs.lemmas.List.{get_or-set_same, get_or-set_other, get_or_read, length-set, length-map}
use Rattle.std.proofs.lemmas.List.FromFn.{fill_by_all}
use Rattle.std.specs.List.{range_with_len}
use Rattle.lte_bits.specs.Softs.{IsWithin}
use Rattle.model_sender.specs.ConstituentCoder.{State}
use Rattle.model_receiver.specs.Borders.{Border, IsBorder, number_for, relative, at}
use Rattle.model_receiver.specs.Paths.{Window, Gain, gain, width}
use Rattle.model_receiver.specs.Windows.{Extrinsic, cell_at, zero_cell, window_between, new_cell, new_cells, forward_left, backward_left}
use Rattle.window_decode.specs.Recursions.{AreNear, cell_through}
use Rattle.window_decode.specs.Metrics.{IsForwardRow, IsBackwardRow, IsForward, IsBackward, row_at}
use Rattle.window_decode.proofs.EightStates.{border_from}
use Rattle.window_decode.proofs.WindowSteps.{Earns, earns, cell-joined}
use Rattle.window_decode.proofs.JoinedPaths.{forward-left, backward-left}
use Rattle.window_decode.proofs.Spread.{IsNarrow, forward-near, backward-near}

-- what holds up to j and at j holds up to j + 1
up_to_more : (P : ℕ → Type 0) (j : ℕ) → ((i : ℕ) → i < j → P i) → P j → (i : ℕ) → i < j + 1 → P i
up_to_more P j h k i lt = elim (cases_lt i j) [ inl below ↦ h i below | inr above ↦ subst P (let e : j ≡ i = omega (arith, lt, above) in e) k ]

pub narrow-more : (g : Gain) (j : ℕ) → ((i : ℕ) → i < j → IsNarrow g i) → IsNarrow g j → (i : ℕ) → i < j + 1 → IsNarrow g i
narrow-more g j = up_to_more (IsNarrow g) j

pub rows-more : (start : Border) (g : Gain) (rows : List (List ℤ)) (j : ℕ) (row : List ℤ) → j < length rows → IsForwardRow start g j row
    → ((i : ℕ) → i < j → IsForwardRow start g i (row_at rows i)) → (i : ℕ) → i < j + 1 → IsForwardRow start g i (row_at (set rows j row) i)
rows-more start g rows j row inside here h =
    up_to_more (λ i. IsForwardRow start g i (row_at (set rows j row) i)) j
    (λ i lt. subst (λ m. IsForwardRow start g i m) (sym (get_or-set_other rows j i row [] (apart i lt))) (h i lt))
    (subst (λ m. IsForwardRow start g j m) (sym (get_or-set_same rows j row [] inside)) here)
  where
    apart : (i : ℕ) → i < j → i ≢ j
    apart i lt e = omega (arith, lt, e)

-- the cells from the last i positions are new, and those before are old
pub record Renewed (w : Window) (old cells : List Extrinsic) (i : ℕ) : Type 0 where
  pub long : length cells ≡ length old
  pub kept : (k : ℕ) → k + i < length old → cell_at cells k ≡ cell_at old k
  pub renewed : (k : ℕ) → length old ≤ k + i → k < length old → cell_at cells k ≡ new_cell w k

pub renewed_none : (w : Window) (old : List Extrinsic) → Renewed w old old 0
renewed_none w old = record { long = refl; kept = λ k h. refl; renewed = λ k h lt. absurd (omega (arith, h, lt)) }

pub renewed-more : (w : Window) (old cells : List Extrinsic) (i j : ℕ) (v : Extrinsic) → j + suc i ≡ length old → Renewed w old cells i → v ≡ new_cell w j → Renewed w old (set cells j v) (i + 1)
renewed-more w old cells i j v place h e = record {
  long = length-set cells j v ∙ h.long;
  kept = λ k lt. get_or-set_other cells j k v zero_cell (before k lt) ∙ h.kept k (omega (arith, lt));
  renewed = λ k le lt.
      elim (cases_lt j k) [
        | inl after ↦ get_or-set_other cells j k v zero_cell (beyond k after) ∙ h.renewed k (omega (arith, after, place)) lt
        | inr upto ↦ (let s : j ≡ k = omega (arith, upto, le, place) in subst (λ n. cell_at (set cells j v) n ≡ new_cell w n) s
            (get_or-set_same cells j v zero_cell (omega (arith, place, h.long)) ∙ e))
      ];
}
  where
    before : (k : ℕ) → k + (i + 1) < length old → k ≢ j
    before k lt e = omega (arith, lt, e, place)

    beyond : (k : ℕ) → j < k → k ≢ j
    beyond k lt e = omega (arith, lt, e)

pub renewed_set : (w : Window) (old cells next : List Extrinsic) (i j : ℕ) (v : Extrinsic) → next ≡ set cells j v → j + suc i ≡ length old
    → Renewed w old cells i → v ≡ new_cell w j → Renewed w old next (i + 1)
renewed_set w old cells next i j v is place h e = subst (λ cells. Renewed w old cells (i + 1)) (sym is) (renewed-more w old cells i j v place h e)

-- a row that was read
pub row_read : (start : Border) (g : Gain) (rows : List (List ℤ)) (j : ℕ) (row : List ℤ) → j < length rows → row ≡ get_or rows j row
    → IsForwardRow start g j (row_at rows j) → IsForwardRow start g j row
row_read start g rows j row inside is h = subst (λ m. IsForwardRow start g j m) (sym (get_or_read rows j row inside is [])) h

pub renewed_all : (w : Window) (old cells : List Extrinsic) (i : ℕ) → width w ≡ length old → length old ≤ i → Renewed w old cells i → cells ≡ new_cells w
unfolding new_cells
renewed_all w old cells i same le h =
    subst (λ n. cells ≡ map (new_cell w) (range_with_len 0 n)) (sym same)
    (fill_by_all (new_cell w) cells (length old) zero_cell h.long (λ k lt. h.renewed k (omega (arith, le)) lt))

-- what the steps of position j earn, by values that still stand there
pub earns_still : (start end : Border) (sys par : List ℤ) (old : List Extrinsic) (sys' par' : List ℤ) (cells : List Extrinsic) (j : ℕ) (x p : ℤ)
    → sys' ≡ sys → par' ≡ par → cell_at cells j ≡ cell_at old j
    → x ≡ at sys' j +ℤ (cell_at cells j).value → p ≡ at par' j → IsWithin 638 x → IsWithin 127 p → Earns (gain (window_between start end sys par old)) j x p
earns_still start end sys par old sys' par' cells j x p es ep ec e f h k =
    earns start end sys par old j x p
    (e ∙ (ap (λ z. at z j +ℤ (cell_at cells j).value) es ∙ ap (λ (c : Extrinsic). at sys j +ℤ c.value) ec)) (f ∙ ap (λ z. at z j) ep) h k

-- the new cell of position j
pub cell_still : (start end : Border) (sys par : List ℤ) (old : List Extrinsic) (sys' par' : List ℤ) (cells : List Extrinsic) (i j : ℕ) (before after : List ℤ) (v : Extrinsic)
    → j + suc i ≡ length old → sys' ≡ sys → par' ≡ par → cell_at cells j ≡ cell_at old j
    → IsForwardRow start (gain (window_between start end sys par old)) j before → IsBackwardRow end (gain (window_between start end sys par old)) (suc j) i after
    → v ≡ cell_through before after (at sys' j) (at par' j) (cell_at cells j).value → v ≡ new_cell (window_between start end sys par old) j
cell_still start end sys par old sys' par' cells i j before after v place es ep ec h k e =
    e
    ∙ (ap (λ z. cell_through before after (at z j) (at par' j) (cell_at cells j).value) es
    ∙ (ap (λ z. cell_through before after (at sys j) (at z j) (cell_at cells j).value) ep
    ∙ (ap (λ (c : Extrinsic). cell_through before after (at sys j) (at par j) c.value) ec
    ∙ cell-joined start end sys par old j i before after (length-map old (λ (c : Extrinsic). c.value) ∙ sym place) h k)))

-- a row is that of an equal position
pub forward_at : (start : Border) (g : Gain) (i j : ℕ) (row : List ℤ) → i ≡ j → IsForwardRow start g i row → IsForwardRow start g j row
forward_at start g i j row e h = subst (λ n. IsForwardRow start g n row) e h

pub backward_at : (end : Border) (g : Gain) (i j n k : ℕ) (row : List ℤ) → i ≡ j → n ≡ k → IsBackwardRow end g i n row → IsBackwardRow end g j k row
backward_at end g i j n k row e f h = subst (λ m. IsBackwardRow end g j m row) f (subst (λ m. IsBackwardRow end g m n row) e h)

-- ---- the ends

pub border_from_near : (row : List ℤ) (m : State → ℤ) → row ≡ relative m → AreNear 2295 m → IsBorder row
border_from_near row m e near = subst (λ (b : Border). IsBorder b) (sym e) (border_from m (λ s t. more _ (near s t)))
  where
    more : (x : ℤ) → x ≤ℤ pos 2295 → x ≤ℤ pos 4096
    more x p = omega (arith, ints)

pub forward_row-border : (start : Border) (g : Gain) (n : ℕ) (row : List ℤ) → 8 ≤ n → ((i : ℕ) → i < n → IsNarrow g i) → IsForwardRow start g n row → IsBorder row
forward_row-border start g n row le narrow h =
    let e : n ≡ (n - 3) + 3 = omega (arith, le) in
    border_from_near row h.metrics h.is (forward-near (number_for start) g (n - 3) h.metrics (λ i lt. narrow i (omega (arith, lt, le)))
    (subst (λ m. IsForward (number_for start) g m h.metrics) e h.greatest))

pub backward_row-border : (end : Border) (g : Gain) (n : ℕ) (row : List ℤ) → 8 ≤ n → ((i : ℕ) → i < n → IsNarrow g i) → IsBackwardRow end g 0 n row → IsBorder row
backward_row-border end g n row le narrow h =
    let e : n ≡ 3 + (n - 3) = omega (arith, le) in
    border_from_near row h.metrics h.is (backward-near (number_for end) g 0 (n - 3) h.metrics (λ i lt. narrow i (omega (arith, lt, le)))
    (subst (λ m. IsBackward (number_for end) g 0 m h.metrics) e h.greatest))

pub forward_row-left : (start end : Border) (sys par : List ℤ) (cells : List Extrinsic) (row : List ℤ) → IsForwardRow start (gain (window_between start end sys par cells)) (length cells) row
    → row ≡ forward_left (window_between start end sys par cells)
forward_row-left start end sys par cells row h =
    let w : Window = window_between start end sys par cells in
    let e : length cells ≡ width w = sym (length-map cells (λ (c : Extrinsic). c.value)) in
    h.is ∙ forward-left w h.metrics (subst (λ n. IsForward (number_for start) (gain w) n h.metrics) e h.greatest)

pub backward_row-left : (start end : Border) (sys par : List ℤ) (cells : List Extrinsic) (row : List ℤ) → IsBackwardRow end (gain (window_between start end sys par cells)) 0 (length cells) row
    → row ≡ backward_left (window_between start end sys par cells)
backward_row-left start end sys par cells row h =
    let w : Window = window_between start end sys par cells in
    let e : length cells ≡ width w = sym (length-map cells (λ (c : Extrinsic). c.value)) in
    h.is ∙ backward-left w h.metrics (subst (λ n. IsBackward (number_for end) (gain w) 0 n h.metrics) e h.greatest)

pub width-between : (start end : Border) (sys par : List ℤ) (cells : List Extrinsic) → width (window_between start end sys par cells) ≡ length cells
width-between start end sys par cells = length-map cells (λ (c : Extrinsic). c.value)
