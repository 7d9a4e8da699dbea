-- The constituent coder (36.212 5.1.3.2.1) and its tail (5.1.3.2.2).
use Rattle.std.specs.Prelude.{◌≡◌, ℕ, suc, ◌+◌, ◌*◌, ◌<◌, List, [], ◌∷◌, length}
use Rattle.lte_bits.specs.Bits.{digit}
use Rattle.lte_bits.specs.declared.bit.Bit.{Bit}
use Rattle.lte_bits.specs.declared.bit.Bit.TheVariants.{Zero}
use Rattle.model_sender.specs.Bits.{plus, at}

-- the last three values of a, the newest first
pub record State : Type 0 where
  pub a1 : Bit
  pub a2 : Bit
  pub a3 : Bit

abbrev pub zero_state : State
zero_state = record { a1 = Zero; a2 = Zero; a3 = Zero }

-- 4 a(k-1) + 2 a(k-2) + a(k-3)
abbrev pub state_number : State → ℕ
state_number s = 4 * digit s.a1 + 2 * digit s.a2 + digit s.a3

-- place k of it is a(k - 3), where a goes on from a state
abbrev pub past : State → List Bit → List Bit
past s a = s.a3 ∷ s.a2 ∷ s.a1 ∷ a

-- from a state on, a(k) = c(k) + a(k-2) + a(k-3), and z(k) = a(k) + a(k-1) + a(k-3)
pub record IsCoderFrom (s : State) (c a z : List Bit) : Type 0 where
  pub a_long : length a ≡ length c
  pub z_long : length z ≡ length c
  pub a_is : (k : ℕ) → k < length c →
      at a k ≡ plus (plus (at c k) (at (past s a) (suc k))) (at (past s a) k)
  pub z_is : (k : ℕ) → k < length c →
      at z k ≡ plus (plus (at a k) (at (past s a) (suc (suc k)))) (at (past s a) k)

-- the same from nothing: a(k) is 0 for negative k
abbrev pub IsCoder : List Bit → List Bit → List Bit → Type 0
IsCoder c a z = IsCoderFrom zero_state c a z

-- ---- The two lists as functions, which the law `coder_is_the_one` ties to `IsCoder`.

-- the value of a at one place, the parity bit there, and the state after it
abbrev pub value : State → Bit → Bit
value s u = plus (plus u s.a2) s.a3

abbrev pub parity : State → Bit → Bit
parity s u = plus (plus (value s u) s.a1) s.a3

abbrev pub next : State → Bit → State
next s u = record { a1 = value s u; a2 = s.a1; a3 = s.a2 }

abbrev pub values_from : State → List Bit → List Bit
values_from s [] = []
values_from s (u ∷ us) = value s u ∷ values_from (next s u) us

abbrev pub parities_from : State → List Bit → List Bit
parities_from s [] = []
parities_from s (u ∷ us) = parity s u ∷ parities_from (next s u) us

-- a and z of the list c
abbrev pub values : List Bit → List Bit
values c = values_from zero_state c

abbrev pub parities : List Bit → List Bit
parities c = parities_from zero_state c

-- x(k) = a(k-2) + a(k-3) and z(k) = a(k-1) + a(k-3) at the three places after c, where a(k) is 0
abbrev pub tail_x : List Bit → ℕ → Bit
tail_x a k = plus (at (past zero_state a) (suc k)) (at (past zero_state a) k)

abbrev pub tail_z : List Bit → ℕ → Bit
tail_z a k = plus (at (past zero_state a) (suc (suc k))) (at (past zero_state a) k)
