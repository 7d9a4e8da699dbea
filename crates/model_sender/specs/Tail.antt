-- The constituent coder from a state on, and its tail (36.212 5.1.3.2.2).
use Rattle.std.specs.Prelude.{ℕ, suc, List, [], ◌∷◌, map}
use Rattle.lte_bits.specs.declared.bit.Bit.{Bit}
use Rattle.model_sender.specs.Bits.{plus, at}
use Rattle.model_sender.specs.ConstituentCoder.{State, past, next}

-- the state after the inputs
abbrev pub reached : State → List Bit → State
reached s [] = s
reached s (u ∷ us) = reached (next s u) us

-- x(k) = a(k-2) + a(k-3) and z(k) = a(k-1) + a(k-3) at place k after a state, where a is 0
abbrev pub tail_input : State → ℕ → Bit
tail_input s k = plus (at (past s []) (suc k)) (at (past s []) k)

abbrev pub tail_parity : State → ℕ → Bit
tail_parity s k = plus (at (past s []) (suc (suc k))) (at (past s []) k)

-- the three steps of the tail
abbrev pub tail_inputs : State → List Bit
tail_inputs s = map (tail_input s) (0 ∷ 1 ∷ 2 ∷ [])

abbrev pub tail_parities : State → List Bit
tail_parities s = map (tail_parity s) (0 ∷ 1 ∷ 2 ∷ [])
