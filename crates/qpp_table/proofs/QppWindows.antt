-- The windows of a lawful interleaver: one row, and a bank for each.
use Rattle.std.proofs.Common.{◌≡◌, ℕ, ◌+◌, ◌*◌, ◌/◌, ◌%◌, ◌<◌, sym, ap, ◌∙◌}
use Prim.Native.Nat.{◌∣◌}
use Rattle.model_sender.specs.InterleaverLaws.{IsInterleaver, row-window, bank-window, bank_below, window_place_below}
use Rattle.qpp_table.specs.declared.interleaver.Qpp.{Qpp}
use Rattle.qpp_table.specs.Qpp.{size_in, value_at, width, bank_at, row_at}
use Rattle.qpp_table.specs.QppLaws.{value-below, values_differ, value-kept}

pub qpp-interleaves : (q : Qpp) → IsInterleaver (size_in q) (value_at q)
qpp-interleaves q = record { below = value-below q; apart = values_differ q; kept = value-kept q }

pub rows_same : (q : Qpp) (m j t u : ℕ) → m ∣ size_in q → j < width q m → t < m → u < m → row_at q m t j ≡ row_at q m u j
rows_same q m j t u d lj lt lu =
    row-window (size_in q) (value_at q) m j t (qpp-interleaves q) d lj lt
    ∙ sym (row-window (size_in q) (value_at q) m j u (qpp-interleaves q) d lj lu)

pub bank_at-below : (q : Qpp) (m j t : ℕ) → m ∣ size_in q → j < width q m → t < m → bank_at q m t j < m
bank_at-below q m j t d lj lt =
    bank_below (size_in q) m (value_at q (j + t * width q m)) d (value-below q (j + t * width q m) (window_place_below (size_in q) m j t d lj lt))

pub banks_differ : (q : Qpp) (m j t u : ℕ) → m ∣ size_in q → j < width q m → t < m → u < m → bank_at q m t j ≡ bank_at q m u j → t ≡ u
banks_differ q m j t u = bank-window (size_in q) (value_at q) m j t u (qpp-interleaves q)

-- the row and the bank of a value p, where k is the size that was read
pub row_at-read : (q : Qpp) (m t j k p : ℕ) → k ≡ size_in q → p ≡ value_at q (j + t * (k / m)) → p % (k / m) ≡ row_at q m t j
row_at-read q m t j k p size value = ap (λ n. n % (k / m)) value ∙ ap (λ n. value_at q (j + t * (n / m)) % (n / m)) size

pub bank_at-read : (q : Qpp) (m t j k p : ℕ) → k ≡ size_in q → p ≡ value_at q (j + t * (k / m)) → p / (k / m) ≡ bank_at q m t j
bank_at-read q m t j k p size value = ap (λ n. n / (k / m)) value ∙ ap (λ n. value_at q (j + t * (n / m)) / (n / m)) size
