-- Paths through a window of the trellis, what they score, and the greatest of the scores.
use Rattle.std.specs.Prelude.{◌≡◌, ℕ, zero, suc, ℤ, pos, ◌+ℤ◌, ◌-ℤ◌, ◌≤ℤ◌, Bool, true, false, ◌&&◌, List, [], ◌∷◌, ◌++◌, length, map, flat_map, filter, fold}
use Rattle.std.specs.Int.{int_max}
use Rattle.lte_bits.specs.declared.bit.Bit.{Bit}
use Rattle.lte_bits.specs.declared.bit.Bit.TheVariants.{Zero, One}
use Rattle.model_sender.specs.Bits as bits
use Rattle.model_sender.specs.ConstituentCoder.{State, next, parity}
use Rattle.model_sender.specs.Tail.{reached}
use Rattle.model_receiver.specs.Borders.{Border, states, number_for, at, if_zero}

-- a border before the first position and one after the last, and for each position a systematic value, a
-- parity value and the value of an extrinsic cell
pub record Window : Type 0 where
  pub start : Border
  pub end : Border
  pub sys : List ℤ
  pub par : List ℤ
  pub cells : List ℤ

abbrev pub width : Window → ℕ
width w = length w.cells

-- a start state and input bits
pub record Path : Type 0 where
  pub start : State
  pub bits : List Bit

abbrev pub path : State → List Bit → Path
path s us = record { start = s; bits = us }

-- the state in which a path ends
abbrev pub end_state : Path → State
end_state p = reached p.start p.bits

-- what bit b at position j earns by systematic value and cell
abbrev pub own_gain : Window → ℕ → Bit → ℤ
own_gain w j b = if_zero b (at w.sys j +ℤ at w.cells j)

-- what a step earns: at a position, from a state, by an input bit
abbrev pub Gain : Type 0
Gain = ℕ → State → Bit → ℤ

abbrev pub gain : Window → Gain
gain w j s u = own_gain w j u +ℤ if_zero (parity s u) (at w.par j)

-- what input bits earn from position j and state s on
abbrev pub earned : Gain → ℕ → State → List Bit → ℤ
earned g j s [] = pos 0
earned g j s (u ∷ us) = g j s u +ℤ earned g (suc j) (next s u) us

-- the start state's number and all earnings of a path, and all earnings and the end state's number
abbrev pub from_start : Window → Path → ℤ
from_start w p = number_for w.start p.start +ℤ earned (gain w) 0 p.start p.bits

abbrev pub to_end : Window → Path → ℤ
to_end w p = earned (gain w) 0 p.start p.bits +ℤ number_for w.end (end_state p)

abbrev pub score : Window → Path → ℤ
score w p = from_start w p +ℤ number_for w.end (end_state p)

-- a path's score, less what the bit at position j earns by systematic value and cell
abbrev pub score_without : Window → ℕ → Path → ℤ
score_without w j p = score w p -ℤ own_gain w j (bits.at p.bits j)

-- m is the number of some allowed x, and no allowed x has a greater one
pub record IsGreatest {X : Type 0} (Allowed : X → Type 0) (value : X → ℤ) (m : ℤ) : Type 0 where
  pub attained : (x : X) × Allowed x × (value x ≡ m)
  pub bound : (x : X) → Allowed x → value x ≤ℤ m

-- x is the greatest score of a path with bit b at position j, without what that bit earns
abbrev pub IsBest : Window → Bit → ℕ → ℤ → Type 0
IsBest w b j x =
    IsGreatest (λ (p : Path). (length p.bits ≡ width w) × (bits.at p.bits j ≡ b)) (score_without w j) x

-- x is the greatest number of a path that ends in s, or that starts in s
abbrev pub IsBestTo : Window → State → ℤ → Type 0
IsBestTo w s x = IsGreatest (λ (p : Path). (length p.bits ≡ width w) × (end_state p ≡ s)) (from_start w) x

abbrev pub IsBestFrom : Window → State → ℤ → Type 0
IsBestFrom w s x = IsGreatest (λ (p : Path). (length p.bits ≡ width w) × (p.start ≡ s)) (to_end w) x

-- ---- The same numbers as functions, which the laws of `paths` tie to these relations.

-- the 2^n lists of n bits
abbrev pub bit_lists : ℕ → List (List Bit)
bit_lists zero = [] ∷ []
bit_lists (suc n) = map (λ us. Zero ∷ us) (bit_lists n) ++ map (λ us. One ∷ us) (bit_lists n)

-- the 8 * 2^n paths of n bits
abbrev pub paths : ℕ → List Path
paths n = flat_map (λ s. map (path s) (bit_lists n)) states

abbrev pub greatest : List ℤ → ℤ
greatest [] = pos 0
greatest (x ∷ xs) = fold int_max x xs

abbrev pub same_bit : Bit → Bit → Bool
same_bit Zero Zero = true
same_bit Zero One = false
same_bit One Zero = false
same_bit One One = true

abbrev pub same_state : State → State → Bool
same_state s t = same_bit s.a1 t.a1 && same_bit s.a2 t.a2 && same_bit s.a3 t.a3

-- the greatest value of the allowed paths of n bits
unfoldable pub greatest_of_paths : ℕ → (Path → Bool) → (Path → ℤ) → ℤ
greatest_of_paths n allowed value = greatest (map value (filter allowed (paths n)))

abbrev pub best : Window → Bit → ℕ → ℤ
best w b j = greatest_of_paths (width w) (λ p. same_bit (bits.at p.bits j) b) (score_without w j)

abbrev pub best_to : Window → State → ℤ
best_to w s = greatest_of_paths (width w) (λ p. same_state (end_state p) s) (from_start w)

abbrev pub best_from : Window → State → ℤ
best_from w s = greatest_of_paths (width w) (λ p. same_state p.start s) (to_end w)
