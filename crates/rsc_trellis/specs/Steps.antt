-- The steps into a state (36.212 5.1.3.2.1).
use Rattle.lte_bits.specs.declared.bit.Bit.{Bit}
use Rattle.model_sender.specs.Bits.{plus}
use Rattle.model_sender.specs.ConstituentCoder.{State}

-- the state before s whose oldest value is r, and the input that leads from it to s
abbrev pub state_before : State → Bit → State
state_before s r = record { a1 = s.a2; a2 = s.a3; a3 = r }

abbrev pub input_before : State → Bit → Bit
input_before s r = plus (plus s.a1 s.a3) r
