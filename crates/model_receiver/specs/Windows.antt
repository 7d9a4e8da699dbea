-- What the decoding of one window leaves: new extrinsic cells with decided bits, and two borders.
use Rattle.std.specs.Prelude.{ℕ, ℤ, pos, ◌+ℤ◌, ◌-ℤ◌, ◌*ℤ◌, int_div, int_lt, Bool, false, List, map, slice_index_or}
use Rattle.std.specs.List.{range_with_len}
use Rattle.lte_bits.specs.Softs.{clamped}
use Rattle.lte_bits.specs.declared.bit.Bit.TheVariants.{Zero, One}
use Rattle.model_receiver.specs.Borders.{Border, relative, at}
use Rattle.model_receiver.specs.Paths.{Window, width, best, best_to, best_from}

-- an extrinsic cell, and whether the decided bit of its place is 1
pub record Extrinsic : Type 0 where
  pub value : ℤ
  pub one : Bool

abbrev pub values : List Extrinsic → List ℤ
values cells = map (λ c. c.value) cells

abbrev pub zero_cell : Extrinsic
zero_cell = record { value = pos 0; one = false }

-- the cell at a place
abbrev pub cell_at : List Extrinsic → ℕ → Extrinsic
cell_at cells n = slice_index_or cells n zero_cell

-- the window of a strip's values and cells between two borders
abbrev pub window_between : (start end : Border) (sys par : List ℤ) (cells : List Extrinsic) → Window
window_between start end sys par cells = record {
  start = start;
  end = end;
  sys = sys;
  par = par;
  cells = values cells;
}

-- how much better 0 is than 1 at position j, by all but its own systematic value and cell
abbrev pub extrinsic : Window → ℕ → ℤ
extrinsic w j = best w Zero j -ℤ best w One j

-- three quarters, rounded toward zero and clamped
abbrev pub scaled : ℤ → ℤ
scaled x = clamped 511 (int_div (pos 3 *ℤ x) (pos 4))

-- the new cell of extrinsic value x, where the systematic value was s and the old cell c: a tie decides 0
abbrev pub cell_from : ℤ → ℤ → ℤ → Extrinsic
cell_from x s c = record { value = scaled x; one = int_lt (x +ℤ s +ℤ c) (pos 0) }

abbrev pub new_cell : Window → ℕ → Extrinsic
new_cell w j = cell_from (extrinsic w j) (at w.sys j) (at w.cells j)

unfoldable pub new_cells : Window → List Extrinsic
new_cells w = map (new_cell w) (range_with_len 0 (width w))

-- for each state the greatest number of a path that ends in it, and of one that starts in it
unfoldable pub forward_left : Window → Border
forward_left w = relative (best_to w)

unfoldable pub backward_left : Window → Border
backward_left w = relative (best_from w)
