use Rattle.std.proofs.Common.{◌≡◌, ℕ, ◌+◌, ◌*◌, ◌/◌, ◌%◌, ◌<◌, true, slice_index, refl}
use Rattle.std.specs.Prelude.{◌==◌}
use Rattle.std.proofs.lemmas.Bool.{agree_below_at, eqb-true}
use Rattle.model_sender.specs.CircularBuffer.{column_order}
use Rattle.model_sender.proofs.circular_buffer.columns_are_read_in_bit_reversed_order.Goals as goal

-- the five bits of i, in reverse order
abbrev reversed : ℕ → ℕ
reversed i = 16 * (i % 2) + 8 * (i / 2 % 2) + 4 * (i / 4 % 2) + 2 * (i / 8 % 2) + i / 16 % 2

pub returns-clause-columns : goal.returns-clause-columns
returns-clause-columns c = refl

pub returns-clause-reversed : goal.returns-clause-reversed
returns-clause-reversed c =
    λ i below. eqb-true (slice_index column_order i) (reversed i)
    (agree_below_at (λ j. slice_index column_order j == reversed j) (λ _. true) 32 i refl below)
