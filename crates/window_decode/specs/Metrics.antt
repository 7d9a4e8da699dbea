-- What the metrics of a recursion are: greatest numbers over paths.
use Rattle.std.specs.Prelude.{◌≡◌, ℕ, ℤ, ◌+ℤ◌, List, [], length, slice_index_or}
use Rattle.lte_bits.specs.declared.bit.Bit.{Bit}
use Rattle.model_sender.specs.ConstituentCoder.{State}
use Rattle.model_sender.specs.Tail.{reached}
use Rattle.model_receiver.specs.Borders.{Border, number_for, relative}
use Rattle.model_receiver.specs.Paths.{Path, end_state, Gain, earned, IsGreatest}

-- m has for each state the greatest number of a path of j bits that ends in it
abbrev pub IsForward : (State → ℤ) → Gain → ℕ → (State → ℤ) → Type 0
IsForward first g j m =
    (s : State) → IsGreatest (λ (p : Path). (length p.bits ≡ j) × (end_state p ≡ s))
    (λ p. first p.start +ℤ earned g 0 p.start p.bits) (m s)

-- m has for each state the greatest number of n bits from it, from position j on
abbrev pub IsBackward : (State → ℤ) → Gain → ℕ → ℕ → (State → ℤ) → Type 0
IsBackward last g j n m =
    (s : State) → IsGreatest (λ (us : List Bit). length us ≡ n)
    (λ us. earned g j s us +ℤ last (reached s us)) (m s)

-- the forward metrics before position j, from a start border, relative to that of state 0
pub record IsForwardRow (start : Border) (g : Gain) (j : ℕ) (row : List ℤ) : Type 0 where
  pub metrics : State → ℤ
  pub greatest : IsForward (number_for start) g j metrics
  pub is : row ≡ relative metrics

-- the backward metrics before position j, with n positions to an end border, relative to that of state 0
pub record IsBackwardRow (end : Border) (g : Gain) (j n : ℕ) (row : List ℤ) : Type 0 where
  pub metrics : State → ℤ
  pub greatest : IsBackward (number_for end) g j n metrics
  pub is : row ≡ relative metrics

-- the metrics of position j in a list of them
abbrev pub row_at : List (List ℤ) → ℕ → List ℤ
row_at rows j = slice_index_or rows j []
