-- Rows of banks, read and replaced.
use Rattle.std.proofs.Common.{◌≡◌, ◌≢◌, ℕ, ◌+◌, ◌*◌, ◌/◌, ◌%◌, ◌<◌, ℤ, pos, List, [], length, get_or, set, sym, ap, ◌∙◌, subst, arith, inl, inr}
use Rattle.std.specs.Prelude.{int_lt}
use Rattle.std.proofs.lemmas.Bool.{cases_lt}
use Rattle.std.proofs.lemmas.List.{get_or_default, get_or_past, length-set}
use Rattle.std.proofs.lemmas.Nat.{div_below}
use Rattle.model_receiver.specs.Borders.{at}
use Rattle.model_receiver.specs.Windows.{Extrinsic, zero_cell, cell_at}
use Rattle.window_rows.specs.Rows.{AreWithin, number_in}
use Rattle.lane_banks.specs.Banks.{cell_of, cell_in, cells_by_place, AreBanks}
use Rattle.lane_banks.proofs.BankCells.{length-by_place, cell-by_place, cell-in_bank, rows-of_product, lanes-some}
use Rattle.window_rows.proofs.Columns.{number-in_same, number-in_other}

-- a number of a row that was read
pub read-number : (rows : List (List ℤ)) (r b : ℕ) (row : List ℤ) → r < length rows → row ≡ get_or rows r row → at row b ≡ number_in rows r b
read-number rows r b row lt e = ap (λ (xs : List ℤ). at xs b) (e ∙ get_or_default rows r row [] lt)

-- a cell by its parts
pub same-cell : (v s : ℤ) (cell : Extrinsic) → v ≡ cell.value → int_lt s (pos 0) ≡ cell.one → cell_of v s ≡ cell
same-cell v s cell ev eo = λ i. record { value = ev i; one = eo i }

module _ (n : ℕ) (values sums : List (List ℤ)) (cells : List Extrinsic) (banks : AreBanks n values sums) (view : cells_by_place n (length values) values sums ≡ cells) where
  pub length-of_view : length cells ≡ n * length values
  length-of_view = ap length (sym view) ∙ length-by_place n (length values) values sums

  pub width-of_view : length cells / n ≡ length values
  width-of_view = rows-of_product n (length values) (length cells) (lanes-some n banks.lanes) length-of_view

  pub cell-of_view : (b r : ℕ) → b < n → r < length values → cell_in values sums r b ≡ cell_at cells (b * (length cells / n) + r)
  cell-of_view b r lb lr =
      sym (cell-in_bank n (length values) values sums b r lb lr)
      ∙ (ap (λ (xs : List Extrinsic). cell_at xs (b * length values + r)) view ∙ ap (λ (w : ℕ). cell_at cells (b * w + r)) (sym width-of_view))

  pub cell-in_view : (b r : ℕ) → b < n → r < length values → cell_in values sums r b ≡ cell_at cells (b * length values + r)
  cell-in_view b r lb lr =
      sym (cell-in_bank n (length values) values sums b r lb lr) ∙ ap (λ (xs : List Extrinsic). cell_at xs (b * length values + r)) view

  pub cell-at_place : (i : ℕ) → i < length cells → cell_in values sums (i % length values) (i / length values) ≡ cell_at cells i
  cell-at_place i lt =
      sym (cell-by_place n (length values) values sums i (omega (arith, length-of_view, lt)))
      ∙ ap (λ (xs : List Extrinsic). cell_at xs i) view

  pub place-bank : (i : ℕ) → i < length cells → i / length values < n
  place-bank i lt = div_below i (length values) n (omega (arith, banks.least)) (omega (arith, length-of_view, lt))

  -- ---- a row is replaced
  module _ (r : ℕ) (nv ns : List ℤ) (lt : r < length values) where
    new_cells : List Extrinsic
    new_cells = cells_by_place n (length (set values r nv)) (set values r nv) (set sums r ns)

    pub length-replaced : length (cells_by_place n (length (set values r nv)) (set values r nv) (set sums r ns)) ≡ length cells
    length-replaced =
        length-by_place n (length (set values r nv)) (set values r nv) (set sums r ns)
        ∙ (ap (λ (w : ℕ). n * w) (length-set values r nv) ∙ sym length-of_view)

    pub cell-replaced : (b : ℕ) → b < n → cell_at (cells_by_place n (length (set values r nv)) (set values r nv) (set sums r ns)) (b * (length cells / n) + r) ≡ cell_of (at nv b) (at ns b)
    cell-replaced b lb =
        let w = length-set values r nv in
        ap (λ (k : ℕ). cell_at (cells_by_place n (length (set values r nv)) (set values r nv) (set sums r ns)) (b * k + r)) (width-of_view ∙ sym w)
        ∙ (cell-in_bank n (length (set values r nv)) (set values r nv) (set sums r ns) b r lb (omega (arith, w, lt))
        ∙ (ap (λ (x : ℤ). cell_of x (number_in (set sums r ns) r b)) (number-in_same values r b nv lt)
        ∙ ap (cell_of (at nv b)) (number-in_same sums r b ns (omega (arith, banks.sums_long, lt)))))

    pub cell-kept : (i : ℕ) → i % (length cells / n) ≢ r → cell_at (cells_by_place n (length (set values r nv)) (set values r nv) (set sums r ns)) i ≡ cell_at cells i
    cell-kept i ne = elim (cases_lt i (length cells)) [
      | inl li ↦ (
          let w = length-set values r nv in
          let far : i % length values ≢ r = λ e. ne (ap (λ (k : ℕ). i % k) width-of_view ∙ e) in
          cell-by_place n (length (set values r nv)) (set values r nv) (set sums r ns) i (subst (λ (k : ℕ). i < k) (length-of_view ∙ ap (λ (k : ℕ). n * k) (sym w)) li)
          ∙ (ap (λ (k : ℕ). cell_in (set values r nv) (set sums r ns) (i % k) (i / k)) w
          ∙ (ap (λ (x : ℤ). cell_of x (number_in (set sums r ns) (i % length values) (i / length values))) (number-in_other values r (i % length values) (i / length values) nv far)
          ∙ (ap (cell_of (number_in values (i % length values) (i / length values))) (number-in_other sums r (i % length values) (i / length values) ns far)
          ∙ cell-at_place i li))))
      | inr le ↦ get_or_past _ i zero_cell (omega (arith, length-replaced, le)) ∙ sym (get_or_past cells i zero_cell le)
    ]

-- a cell of banks whose rows were all replaced
pub cell-of_rows : (n w : ℕ) (values sums : List (List ℤ)) (b r : ℕ) → length values ≡ w → b < n → r < w
    → cell_at (cells_by_place n (length values) values sums) (b * w + r) ≡ cell_in values sums r b
cell-of_rows n w values sums b r e lb lr =
    ap (λ (k : ℕ). cell_at (cells_by_place n (length values) values sums) (b * k + r)) (sym e)
    ∙ cell-in_bank n (length values) values sums b r lb (omega (arith, e, lr))

pub banks-of_rows : (n : ℕ) (values sums vs ss : List (List ℤ)) → AreBanks n values sums → length vs ≡ length values → length ss ≡ length values → AreWithin n 511 vs → AreBanks n vs ss
banks-of_rows n values sums vs ss banks ev es within = record {
  lanes = banks.lanes;
  sums_long = es ∙ sym ev;
  least = omega (arith, ev, banks.least);
  most = omega (arith, ev, banks.most);
  within = within;
}
