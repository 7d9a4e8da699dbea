use Rattle.std.proofs.Common.{pos, ◌-ℤ◌, ◌≤ℤ◌, arith}
use Rattle.std.proofs.lemmas.Int.{ints}
use Rattle.window_decode.proofs.EightStates.{border_from}
use Rattle.window_decode.proofs.border.Border.unknown.Goals as goal

pub invariant_of-result : goal.invariant_of-result
invariant_of-result c = border_from (λ s. pos 0) (λ s t. no_difference)
  where
    no_difference : (pos 0 -ℤ pos 0) ≤ℤ pos 4096
    no_difference = omega (arith, ints)
