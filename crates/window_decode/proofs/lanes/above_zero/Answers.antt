use Rattle.std.proofs.Common.{◌≡◌, ℤ, List, length, ap, ◌∙◌, ◌-ℤ◌, ◌≤◌, arith}
use Rattle.model_sender.specs.ConstituentCoder.{zero_state}
use Rattle.model_receiver.specs.Borders.{number_for, border_of}
use Rattle.window_decode.proofs.EightStates.{number-border_of}
use Rattle.window_decode.proofs.LaneSteps.{IsDifference, each_lane, difference-same, differences_fit, differences_stored, zip2-border}
use Rattle.window_decode.proofs.LaneNumbers.{passed, lanes-own, lanes_passed, moved-numbers}
use Rattle.window_decode.specs.Recursions.{IsBounded}
use Rattle.window_decode.specs.Lanes.{IsLanes}
use lib.Lanes.{Each2}
use Rattle.window_decode.proofs.lanes.above_zero.Goals as goal

least : 32767 ≤ 32767
least = omega arith

-- the number of state 0 in each lane
zeros : (m z : List ℤ) → IsLanes m → z ≡ border_of (λ _. number_for (passed m) zero_state) → z ≡ border_of (λ _. number_for m zero_state)
zeros m z h e = (moved-numbers 32767 (number_for m) (λ _. zero_state) m z least (lanes-own m h) e).is

differ : (m z : List ℤ) → IsLanes m → z ≡ border_of (λ _. number_for (passed m) zero_state) → IsBounded 32767 (λ s. number_for m s -ℤ number_for m zero_state) → Each2 IsDifference m z
differ m z h e fits =
    let is = zeros m z h e in
    each_lane IsDifference m z h.eight (ap length is)
    (λ s. difference-same (number_for m s) (number_for m zero_state) (number_for z s) (ap (λ ys. number_for ys s) is ∙ number-border_of (λ _. number_for m zero_state) s)
    (h.bounded s) (h.bounded zero_state) (fits s))

pub of_state_zero-requires : goal.of_state_zero-requires
of_state_zero-requires c = lanes_passed 32767 _ _ least (lanes-own c.args.a c.requires.lanes)

pub overflow_sub-result : goal.overflow_sub-result
overflow_sub-result c =
    let m = c.args.a in let z = c.of_state_zero.result in
    differences_fit m z (differ m z c.requires.lanes c.of_state_zero.ensures c.requires.fits)

pub returns : goal.returns
returns c =
    let m = c.args.a in let z = c.of_state_zero.result in
    let is = zeros m z c.requires.lanes c.of_state_zero.ensures in
    differences_stored m z (differ m z c.requires.lanes c.of_state_zero.ensures c.requires.fits)
    ∙ (zip2-border ◌-ℤ◌ m z c.requires.lanes.eight (ap length is) ∙ ap (λ ys. border_of (λ s. number_for m s -ℤ number_for ys s)) is)
