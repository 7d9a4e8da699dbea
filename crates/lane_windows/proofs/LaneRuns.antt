-- What a run of rows is to the cells of banks.
use Rattle.std.proofs.Common.{◌≡◌, ℕ, ◌+◌, ◌*◌, ◌<◌, ℤ, pos, List, length, refl, sym, ap, ◌∙◌, subst, arith, ◌/◌}
use Rattle.std.proofs.lemmas.List.{ext_get_or, get_or-map, length-map}
use Rattle.std.proofs.lemmas.List.FromFn.{length-map-range_with_len, get_or-map-range_with_len}
use Rattle.std.proofs.lemmas.Simd.{get_or-zip2}
use lib.LanesLaws.{length-zip2}
use Rattle.model_receiver.specs.Borders.{Border, at}
use Rattle.model_receiver.specs.Paths.{Window}
use Rattle.model_receiver.specs.Windows.{Extrinsic, window_between, zero_cell, cell_at, values, new_cells, forward_left, backward_left}
use Rattle.window_rows.specs.Rows.{column, number_in, values_of_window}
use Rattle.lock_step.specs.declared.inputs.BordersIn.{BordersIn}
use Rattle.lock_step.specs.declared.inputs.SoftRows.{SoftRows}
use Rattle.lock_step.specs.Lanes.{border_at, window_at, decided_cells}
use Rattle.std.specs.Prelude.{slice_index}
use Rattle.lane_banks.specs.Banks.{cell_of, cell_in, cells_by_place, AreBanks}
use Rattle.lane_banks.specs.Permutations.{bank_at, IsTable}
use Rattle.lane_windows.specs.Lanes.{cells_of_window, window_of, window_of_rows, HaveRun}
use Rattle.lane_banks.proofs.BankCells.{length-by_place}
use Rattle.lane_banks.proofs.BankRows.{width-of_view, length-of_view, cell-in_view, cell-of_rows}
use Rattle.window_rows.proofs.Columns.{at-column, length-column}

module _ (w : ℕ) (place : ℕ → ℕ) (cells : List Extrinsic) (t : ℕ) where
  length-of_window : length (cells_of_window w place cells t) ≡ w
  length-of_window = length-map-range_with_len (λ i. cell_at cells (place i)) (t * w) w

  cell-of_window : (j : ℕ) → j < w → cell_at (cells_of_window w place cells t) j ≡ cell_at cells (place (t * w + j))
  cell-of_window j lt = get_or-map-range_with_len (λ i. cell_at cells (place i)) (t * w) w j (t * w + j) zero_cell lt (omega arith)

  -- the values of the cells that a window reads
  pub values-in_lane : (rows : List (List ℤ)) → length rows ≡ w
      → ((j : ℕ) → j < w → (cell_at cells (place (t * w + j))).value ≡ number_in rows j t)
      → values (cells_of_window w place cells t) ≡ column t rows
  values-in_lane rows long same =
      ext_get_or (pos 0) _ _ (length-map (cells_of_window w place cells t) (λ c. c.value) ∙ (length-of_window ∙ (sym long ∙ sym (length-column t rows))))
      (λ j lt. let lj : j < w = omega (arith, length-map (cells_of_window w place cells t) (λ c. c.value), length-of_window, lt) in
      get_or-map (λ (c : Extrinsic). c.value) (cells_of_window w place cells t) j zero_cell (pos 0) (omega (arith, length-of_window, lj))
      ∙ (ap (λ (c : Extrinsic). c.value) (cell-of_window j lj) ∙ (same j lj ∙ sym (at-column t j rows (omega (arith, long, lj))))))

  -- the cells that it leaves
  pub cells-in_lane : (vs ss : List (List ℤ)) → length vs ≡ w → length ss ≡ w
      → ((j : ℕ) → j < w → cell_at cells (place (t * w + j)) ≡ cell_in vs ss j t)
      → cells_of_window w place cells t ≡ decided_cells (column t vs) (column t ss)
  cells-in_lane vs ss longv longs same =
      let lv : length (column t vs) ≡ w = length-column t vs ∙ longv in
      let ls : length (column t ss) ≡ w = length-column t ss ∙ longs in
      ext_get_or zero_cell _ _ (length-of_window ∙ (sym lv ∙ sym (length-zip2 cell_of (column t vs) (column t ss) (lv ∙ sym ls))))
      (λ j lt. let lj : j < w = omega (arith, length-of_window, lt) in
      cell-of_window j lj
      ∙ (same j lj
      ∙ (ap (λ (x : ℤ). cell_of x (number_in ss j t)) (sym (at-column t j vs (omega (arith, longv, lj))))
      ∙ (ap (cell_of (at (column t vs) j)) (sym (at-column t j ss (omega (arith, longs, lj))))
      ∙ sym (get_or-zip2 cell_of (column t vs) (column t ss) j (pos 0) (pos 0) zero_cell (omega (arith, lv, lj)) (omega (arith, ls, lj)))))))

-- what the kernel leaves of rows
pub record KernelRan (n : ℕ) (borders : BordersIn) (soft : SoftRows n) (rows vs ss : List (List ℤ)) (alpha_out beta_out : List Border) : Type 0 where
  pub cells : (t : ℕ) → t < n → decided_cells (column t vs) (column t ss) ≡ new_cells (window_at t borders soft rows)
  pub forward : (t : ℕ) → t < n → border_at alpha_out t ≡ forward_left (window_at t borders soft rows)
  pub backward : (t : ℕ) → t < n → border_at beta_out t ≡ backward_left (window_at t borders soft rows)

-- n windows have run, where rows of numbers stand for the cells before and after
pub have-run : (n w : ℕ) (place : ℕ → ℕ) (borders : BordersIn) (soft : SoftRows n) (rows vs ss : List (List ℤ)) (old new : List Extrinsic) (alpha_out beta_out : List Border)
    → length new ≡ length old → length rows ≡ w → length vs ≡ w → length ss ≡ w
    → ((t j : ℕ) → t < n → j < w → (cell_at old (place (t * w + j))).value ≡ number_in rows j t)
    → ((t j : ℕ) → t < n → j < w → cell_at new (place (t * w + j)) ≡ cell_in vs ss j t)
    → KernelRan n borders soft rows vs ss alpha_out beta_out
    → HaveRun w place borders soft old new alpha_out beta_out
have-run n w place borders soft rows vs ss old new alpha_out beta_out long lr lv ls before after ran = record {
  long = long;
  cells = λ t lt. cells-in_lane w place new t vs ss lv ls (λ j lj. after t j lt lj) ∙ (ran.cells t lt ∙ ap new_cells (same t lt));
  forward = λ t lt. ran.forward t lt ∙ ap forward_left (same t lt);
  backward = λ t lt. ran.backward t lt ∙ ap backward_left (same t lt);
}
  where
    with_cells : ℕ → List ℤ → Window
    with_cells t xs = record { start = border_at borders.alpha.now t; end = border_at borders.beta.now t; sys = column t soft.systematic.now; par = column t soft.parity.now; cells = xs }

    same : (t : ℕ) → t < n → window_at t borders soft rows ≡ window_of_rows w place borders soft old t
    same t lt = λ i. record {
      start = border_at borders.alpha.now t;
      end = border_at borders.beta.now t;
      sys = column t soft.systematic.now;
      par = column t soft.parity.now;
      cells = sym (values-in_lane w place old t rows lr (λ j lj. before t j lt lj)) i;
    }

module _ (n : ℕ) (borders : BordersIn) (soft : SoftRows n) (values sums : List (List ℤ)) (old : List Extrinsic) (alpha_out beta_out : List Border)
    (banks : AreBanks n values sums) (view : cells_by_place n (length values) values sums ≡ old) where
  whole : (w : ℕ) → length old / n ≡ w → (place : ℕ → ℕ) (new : List Extrinsic) → HaveRun w place borders soft old new alpha_out beta_out
      → HaveRun (length old / n) place borders soft old new alpha_out beta_out
  whole w e place new run = subst (λ (k : ℕ). HaveRun k place borders soft old new alpha_out beta_out) (sym e) run

  long-new : (all others : List (List ℤ)) → length all ≡ length values → length (cells_by_place n (length all) all others) ≡ length old
  long-new all others e =
      length-by_place n (length all) all others ∙ (ap (λ (k : ℕ). n * k) e ∙ sym (length-of_view n values sums old banks view))

  -- the rows are the banks' own
  pub straight-run : (vs ss all others : List (List ℤ)) → all ≡ vs → others ≡ ss → length vs ≡ length values → length ss ≡ length values
      → KernelRan n borders soft values vs ss alpha_out beta_out
      → HaveRun (length old / n) (λ i. i) borders soft old (cells_by_place n (length all) all others) alpha_out beta_out
  straight-run vs ss all others ea eo lv ls ran =
      let w : ℕ = length values in
      whole w (width-of_view n values sums old banks view) (λ i. i) (cells_by_place n (length all) all others)
      (have-run n w (λ i. i) borders soft values vs ss old (cells_by_place n (length all) all others) alpha_out beta_out
      (long-new all others (ap length ea ∙ lv)) refl lv ls
      (λ t j lt lj. ap (λ (c : Extrinsic). c.value) (sym (cell-in_view n values sums old banks view t j lt lj)))
      (λ t j lt lj. cell-of_rows n w all others t j (ap length ea ∙ lv) lt lj
      ∙ (ap (λ (xs : List (List ℤ)). cell_in xs others j t) ea ∙ ap (λ (xs : List (List ℤ)). cell_in vs xs j t) eo))
      ran)

  -- the rows are brought and put back
  pub crossed-run : (place : ℕ → ℕ) (rs : List ℕ) (bs : List (List ℕ)) (rows vs ss all others : List (List ℤ))
      → IsTable n (length values) place rs bs → length rows ≡ length values → length vs ≡ length values → length ss ≡ length values
      → length all ≡ length values
      → ((j t : ℕ) → j < length values → t < n → number_in rows j t ≡ number_in values (slice_index rs j) (bank_at bs j t))
      → ((j t : ℕ) → j < length values → t < n → number_in all (slice_index rs j) (bank_at bs j t) ≡ number_in vs j t)
      → ((j t : ℕ) → j < length values → t < n → number_in others (slice_index rs j) (bank_at bs j t) ≡ number_in ss j t)
      → KernelRan n borders soft rows vs ss alpha_out beta_out
      → HaveRun (length old / n) place borders soft old (cells_by_place n (length all) all others) alpha_out beta_out
  crossed-run place rs bs rows vs ss all others table lr lv ls la brought putv puts ran =
      let w : ℕ = length values in
      whole w (width-of_view n values sums old banks view) place (cells_by_place n (length all) all others)
      (have-run n w place borders soft rows vs ss old (cells_by_place n (length all) all others) alpha_out beta_out
      (long-new all others la) lr lv ls
      (λ t j lt lj.
      ap (λ (i : ℕ). (cell_at old i).value) (sym (table.stands j t lj lt))
      ∙ (ap (λ (c : Extrinsic). c.value) (sym (cell-in_view n values sums old banks view (bank_at bs j t) (slice_index rs j) (table.bank j t lj lt) (table.row j lj)))
      ∙ sym (brought j t lj lt)))
      (λ t j lt lj.
      ap (cell_at (cells_by_place n (length all) all others)) (sym (table.stands j t lj lt))
      ∙ (cell-of_rows n w all others (bank_at bs j t) (slice_index rs j) la (table.bank j t lj lt) (table.row j lj)
      ∙ (ap (λ (x : ℤ). cell_of x (number_in others (slice_index rs j) (bank_at bs j t))) (putv j t lj lt) ∙ ap (cell_of (number_in vs j t)) (puts j t lj lt))))
      ran)

-- the soft values in rows are those by position
pub by-position : (w : ℕ) (place : ℕ → ℕ) (alpha beta : List Border) (sys par : List (List ℤ)) (s p : List ℤ) (cells : List Extrinsic) (t : ℕ)
    → column t sys ≡ values_of_window w s t → column t par ≡ values_of_window w p t
    → window_between (border_at alpha t) (border_at beta t) (column t sys) (column t par) (cells_of_window w place cells t) ≡ window_of w place alpha beta s p cells t
by-position w place alpha beta sys par s p cells t es ep = λ i. record {
  start = border_at alpha t;
  end = border_at beta t;
  sys = es i;
  par = ep i;
  cells = values (cells_of_window w place cells t);
}
