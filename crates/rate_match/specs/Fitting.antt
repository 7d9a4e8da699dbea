-- Which soft buffers are large enough for every transport block up to a length.
use Rattle.std.specs.Prelude.{ℕ, ◌*◌, ◌/◌, ◌≤◌, Bool, true, nat_le, Some, None}
use Rattle.std.specs.declared.option.Option.{Option}
use Rattle.std.specs.List.{list_all, range_with_len}
use Rattle.model_sender.specs.Segmentation.{plan_of}
use Rattle.model_sender.specs.CircularBuffer.{FitsIn, rows_of}

-- the buffer fits the plan of every length from 1 to tb
abbrev pub FitsAll : Option ℕ → ℕ → Type 0
FitsAll limit tb =
    (bytes : ℕ) → 1 ≤ bytes → bytes ≤ tb → FitsIn limit (plan_of bytes).c (plan_of bytes).k_plus

-- ---- The same as a test.

abbrev pub fits_in : Option ℕ → ℕ → ℕ → Bool
fits_in None c k = true
fits_in (Some limit) c k = nat_le (32 * rows_of k) (limit / c)

unfoldable pub fits_all : Option ℕ → ℕ → Bool
fits_all limit tb =
    list_all (λ bytes. fits_in limit (plan_of bytes).c (plan_of bytes).k_plus) (range_with_len 1 tb)
