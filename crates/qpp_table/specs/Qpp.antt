-- What callers see of an interleaver of the table's form (36.212 5.1.3.2.3).
use Rattle.std.specs.Prelude.{ℕ, ◌+◌, ◌*◌, ◌/◌}
use Rattle.model_sender.specs.Interleaver.{pi, bank, row}
use Rattle.model_sender.specs.declared.rows.Row.{Row}
use Rattle.qpp_table.specs.declared.interleaver.Qpp.{Qpp}

-- its size, f1 and f2
abbrev pub row_in : Qpp → Row
row_in q = record { 0 = q.k; 1 = q.f1; 2 = q.f2 }

abbrev pub size_in : Qpp → ℕ
size_in q = q.k

-- Pi(i) = (f1 i + f2 i^2) mod K
abbrev pub value_at : Qpp → ℕ → ℕ
value_at q i = pi q.k q.f1 q.f2 i

-- W = K/M, the width of one of m windows
abbrev pub width : Qpp → ℕ → ℕ
width q m = size_in q / m

-- the bank and the row of place j of window t among m windows (Takeshita 2006)
abbrev pub bank_at : (q : Qpp) (m t j : ℕ) → ℕ
bank_at q m t j = bank (width q m) (value_at q (j + t * width q m))

abbrev pub row_at : (q : Qpp) (m t j : ℕ) → ℕ
row_at q m t j = row (width q m) (value_at q (j + t * width q m))
