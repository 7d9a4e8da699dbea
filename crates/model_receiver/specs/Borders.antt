-- Borders between windows: a number for each state of the trellis, relative to that of state 0.
use Rattle.std.specs.Prelude.{◌≡◌, ℕ, ◌+◌, ◌*◌, ℤ, pos, neg_ℤ, ◌+ℤ◌, ◌-ℤ◌, ◌≤ℤ◌, List, [], ◌∷◌, length, map, replicate, slice_index_or}
use Rattle.lte_bits.specs.declared.bit.Bit.{Bit}
use Rattle.lte_bits.specs.declared.bit.Bit.TheVariants.{Zero, One}
use Rattle.model_sender.specs.ConstituentCoder.{State, zero_state, state_number}
use Rattle.model_sender.specs.Tail.{tail_input, tail_parity}

-- the state with three last values, the newest first
abbrev pub state : Bit → Bit → Bit → State
state a b c = record { a1 = a; a2 = b; a3 = c }

-- the eight states, in order of their numbers
abbrev pub states : List State
states =
    state Zero Zero Zero ∷ state Zero Zero One ∷ state Zero One Zero ∷ state Zero One One
    ∷ state One Zero Zero ∷ state One Zero One ∷ state One One Zero ∷ state One One One ∷ []

-- a list of eight numbers, in order of the states' numbers
abbrev pub Border : Type 0
Border = List ℤ

-- the number of a state
abbrev pub number_for : Border → State → ℤ
number_for border s = slice_index_or border (state_number s) (pos 0)

abbrev pub border_of : (State → ℤ) → Border
border_of f = map f states

-- the numbers f, less that of state 0
abbrev pub relative : (State → ℤ) → Border
relative f = border_of (λ s. f s -ℤ f zero_state)

-- what every border keeps: the number of state 0 is 0, and the numbers aren't far apart
pub record IsBorder (border : Border) : Type 0 where
  pub eight : length border ≡ 8
  pub zero : number_for border zero_state ≡ pos 0
  pub spread : (s t : State) → (number_for border s -ℤ number_for border t) ≤ℤ pos 4096

-- nothing is known: each state is as good
abbrev pub unknown : Border
unknown = replicate 8 (pos 0)

-- the state is 0
abbrev pub known : Border
known = pos 0 ∷ replicate 7 (neg_ℤ (pos 4096))

-- the value at a place
abbrev pub at : List ℤ → ℕ → ℤ
at values j = slice_index_or values j (pos 0)

-- v where the bit is 0
abbrev pub if_zero : Bit → ℤ → ℤ
if_zero Zero v = v
if_zero One v = pos 0

-- what step k of the tail from state s earns by the tail's soft values
abbrev pub tail_step : List ℤ → List ℤ → State → ℕ → ℤ
tail_step x z s k = if_zero (tail_input s k) (at x k) +ℤ if_zero (tail_parity s k) (at z k)

abbrev pub tail_sum : List ℤ → List ℤ → State → ℤ
tail_sum x z s = tail_step x z s 0 +ℤ tail_step x z s 1 +ℤ tail_step x z s 2

-- the state is the one from which the coder ended
abbrev pub tail : List ℤ → List ℤ → Border
tail x z = relative (tail_sum x z)
