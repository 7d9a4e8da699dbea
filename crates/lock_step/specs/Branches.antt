-- The branches of the trellis from one position to the next, as the numbers of the states before and after.
use Rattle.std.specs.Prelude.{ℕ, ℤ, ◌+ℤ◌, List, map, filter}
use Rattle.lte_bits.specs.declared.bit.Bit.{Bit}
use Rattle.model_sender.specs.ConstituentCoder.{State, state_number, next, parity}
use Rattle.model_receiver.specs.Borders.{states, number_for}
use Rattle.model_receiver.specs.Paths.{greatest, same_bit}

-- the states from which the input u has the parity bit r
abbrev pub states_with : (u r : Bit) → List State
states_with u r = filter (λ s. same_bit (parity s u) r) states

-- the branches from these states
abbrev pub branches : (u r : Bit) → List (ℕ × ℕ)
branches u r = map (λ s. (state_number s, state_number (next s u))) (states_with u r)

-- the greatest sum of the metrics before and after one of these branches
abbrev pub best_along : (u r : Bit) → (alpha beta : List ℤ) → ℤ
best_along u r alpha beta = greatest (map (λ s. number_for alpha s +ℤ number_for beta (next s u)) (states_with u r))
