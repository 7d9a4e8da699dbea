-- The recursions over the positions of a window.
use Rattle.std.specs.Prelude.{◌≡◌, ℕ, ℤ, pos, ◌+ℤ◌, ◌-ℤ◌, ◌≤ℤ◌, List, length}
use Rattle.std.specs.Int.{int_max}
use Rattle.lte_bits.specs.Softs.{IsWithin}
use Rattle.lte_bits.specs.declared.bit.Bit.{Bit}
use Rattle.lte_bits.specs.declared.bit.Bit.TheVariants.{Zero, One}
use Rattle.model_sender.specs.ConstituentCoder.{State, next, parity}
use Rattle.rsc_trellis.specs.Steps.{state_before, input_before}
use Rattle.model_receiver.specs.Borders.{number_for, border_of, if_zero}
use Rattle.model_receiver.specs.Paths.{greatest}
use Rattle.model_receiver.specs.Windows.{Extrinsic, cell_from}

-- the number of each state is from -n to n
abbrev pub IsBounded : ℕ → (State → ℤ) → Type 0
IsBounded n m = (s : State) → IsWithin n (m s)

-- the numbers of two states differ by at most n
abbrev pub AreNear : ℕ → (State → ℤ) → Type 0
AreNear n m = (s t : State) → (m s -ℤ m t) ≤ℤ pos n

-- eight numbers of which a few can be added
pub record IsMetrics (numbers : List ℤ) : Type 0 where
  pub eight : length numbers ≡ 8
  pub bounded : IsBounded 10000000 (number_for numbers)

-- what a step from a state by a bit earns, where x is what an input bit 0 earns and p a parity bit 0
abbrev pub step_gain : ℤ → ℤ → State → Bit → ℤ
step_gain x p s u = if_zero u x +ℤ if_zero (parity s u) p

-- the greater of the two ways into a state
abbrev pub way_in : (State → ℤ) → (State → Bit → ℤ) → State → Bit → ℤ
way_in m g s r = m (state_before s r) +ℤ g (state_before s r) (input_before s r)

abbrev pub forward : (State → ℤ) → (State → Bit → ℤ) → State → ℤ
forward m g s = int_max (way_in m g s Zero) (way_in m g s One)

-- the greater of the two ways out of a state
abbrev pub way_out : (State → ℤ) → (State → Bit → ℤ) → State → Bit → ℤ
way_out m g s u = g s u +ℤ m (next s u)

abbrev pub backward : (State → ℤ) → (State → Bit → ℤ) → State → ℤ
backward m g s = int_max (way_out m g s Zero) (way_out m g s One)

-- the paths through a state that go on by bit b, without what the bit itself earns
abbrev pub joined : (State → ℤ) → (State → ℤ) → ℤ → Bit → State → ℤ
joined m k p b s = m s +ℤ if_zero (parity s b) p +ℤ k (next s b)

-- the greatest of these, and the cell that they give at a position with systematic value s, parity value p
-- and old cell c
abbrev pub through : List ℤ → List ℤ → ℤ → Bit → ℤ
through before after p b = greatest (border_of (joined (number_for before) (number_for after) p b))

abbrev pub cell_through : List ℤ → List ℤ → ℤ → ℤ → ℤ → Extrinsic
cell_through before after s p c = cell_from (through before after p Zero -ℤ through before after p One) s c
