-- The ranges of a window's values, and the parts of a window at whose ends the metrics of a position are.
use Rattle.std.specs.Prelude.{ℕ, take, drop}
use Rattle.lte_bits.specs.Softs.{IsWithin}
use Rattle.model_receiver.specs.Borders.{at}
use Rattle.model_receiver.specs.Paths.{Window}

-- systematic and parity values are soft values, and the cells are clamped ones
pub record IsSoft (w : Window) : Type 0 where
  pub systematic : (j : ℕ) → IsWithin 127 (at w.sys j)
  pub parity : (j : ℕ) → IsWithin 127 (at w.par j)
  pub cells : (j : ℕ) → IsWithin 511 (at w.cells j)

-- the part of a window before position j, and the part from it on: the metrics at the position are
-- `best_to` of the one and `best_from` of the other
abbrev pub part_before : Window → ℕ → Window
part_before w j = record {
  start = w.start;
  end = w.end;
  sys = take j w.sys;
  par = take j w.par;
  cells = take j w.cells;
}

abbrev pub part_from : Window → ℕ → Window
part_from w j = record {
  start = w.start;
  end = w.end;
  sys = drop j w.sys;
  par = drop j w.par;
  cells = drop j w.cells;
}
