use Rattle.std.proofs.Common.{ℤ, pos, negsuc, ◌-ℤ◌, ◌≤ℤ◌, Bool, true, false, arith}
use Rattle.std.proofs.lemmas.Int.{ints}
use Rattle.model_sender.specs.ConstituentCoder.{zero_state}
use Rattle.model_receiver.specs.Paths.{same_state}
use Rattle.window_decode.proofs.EightStates.{border_from}
use Rattle.window_decode.proofs.border.Border.known.Goals as goal

known_number : Bool → ℤ
known_number true = pos 0
known_number false = negsuc 4095

known-near : (a b : Bool) → (known_number a -ℤ known_number b) ≤ℤ pos 4096
unfolding known_number
known-near true true = omega (arith, ints)
known-near true false = omega (arith, ints)
known-near false true = omega (arith, ints)
known-near false false = omega (arith, ints)

pub invariant_of-result : goal.invariant_of-result
unfolding known_number
invariant_of-result c = border_from (λ s. known_number (same_state s zero_state)) (λ s t. known-near (same_state s zero_state) (same_state t zero_state))
