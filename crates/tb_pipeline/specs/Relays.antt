-- The rule of a relay: what its queue holds, and what its passes know.
use Rattle.std.specs.Prelude.{◌≡◌, ℕ, zero, suc, ◌+◌, ◌<◌, ◌≤◌, List, [], ◌∷◌, ◌++◌, Bool, true, false, length, drop, if◌then◌else◌, ◌==◌, ltb, ⊤, All}
use mathlib.Core.Option.{some}
use lib.ListN.{get_elem?}
use Rattle.tb_pipeline.specs.declared.known.Item.{Item}
use Rattle.tb_pipeline.specs.declared.known.Item.TheVariants.{Number, EndMark}
use Rattle.tb_pipeline.specs.declared.known.Role.TheVariants.{Filling, Taking}
use Rattle.tb_pipeline.specs.declared.known.Known.{Known}

-- the numbers below n
abbrev pub numbers : ℕ → List Item
numbers zero = []
numbers (suc n) = numbers n ++ Number n ∷ []

-- the numbers below the count, and then one end mark for each hand
abbrev pub all_items : ℕ → ℕ → List Item
all_items count zero = numbers count
all_items count (suc hands) = all_items count hands ++ EndMark ∷ []

-- numbers from 0 on, and then end marks
abbrev pub AreInOrder : List Item → Type 0
AreInOrder put = (count : ℕ) × (ends : ℕ) × (put ≡ all_items count ends)

-- the sum of f over a list
abbrev pub total : {A : Type 0} → (A → ℕ) → List A → ℕ
total f [] = 0
total f (x ∷ xs) = f x + total f xs

-- how often x is in a list
abbrev pub times : ℕ → List ℕ → ℕ
times x [] = 0
times x (y ∷ ys) = (if y == x then 1 else 0) + times x ys

-- 1 below n, and else 0
abbrev pub once_below : ℕ → ℕ → ℕ
once_below x n = if ltb x n then 1 else 0

abbrev pub is_end_mark : Item → Bool
is_end_mark (Number n) = false
is_end_mark EndMark = true

-- at this place is an end mark
abbrev pub IsEndAt : List Item → ℕ → Type 0
IsEndAt all place = get_elem? all place ≡ some EndMark

-- at none of these places is an end mark
abbrev pub NoEndAt : List Item → List ℕ → Type 0
NoEndAt all [] = ⊤
NoEndAt all (place ∷ places) = ¬ IsEndAt all place × NoEndAt all places

-- who has ended has an end mark at the last of its places alone, and who hasn't has none
abbrev pub EndsBy : Bool → List Item → List ℕ → Type 0
EndsBy false all places = NoEndAt all places
EndsBy true all places = (earlier : List ℕ) × (last : ℕ) × (places ≡ earlier ++ last ∷ []) × IsEndAt all last × NoEndAt all earlier

-- who fills the queue, has put these items and has popped none
abbrev pub filler : List Item → Known
filler items = record { all = items; role = Filling; places = []; ended = false }

-- it is no hand
abbrev pub IsFiller : Known → Type 0
IsFiller v = ¬ (v.role ≡ Taking)

-- a new hand that knows what v knows of the items
abbrev pub hand_of : Known → Known
hand_of v = record { all = v.all; role = Taking; places = []; ended = false }

-- how often the place x is in the lists of all hands
abbrev pub times_taken : ℕ → List Known → ℕ
times_taken x views = total (λ v. times x v.places) views

-- Of all items that were put, in order, g were popped, and the queue holds the others. Each place below g
-- is once in the lists of all hands, and no other place does. A hand has ended exactly where an end mark
-- is at the last of its places. Who fills is alone, and pops nothing.
pub record IsRelayed (items : List Item) (views : List Known) : Type 0 where
  pub put : List Item
  pub g : ℕ
  pub in_order : AreInOrder put
  pub items_are : items ≡ drop g put
  pub within : g ≤ length put
  pub taken : (x : ℕ) → times_taken x views ≡ once_below x g
  pub knows : (j : ℕ) (v : Known) → get_elem? views j ≡ some v → v.all ≡ put
  pub ends : (j : ℕ) (v : Known) → get_elem? views j ≡ some v → EndsBy v.ended v.all v.places
  pub alone : (j : ℕ) (v : Known) → get_elem? views j ≡ some v → v.role ≡ Filling → length views ≡ 1
  pub hands_pop : (j : ℕ) (v : Known) → get_elem? views j ≡ some v → IsFiller v → v.places ≡ []

-- some hand of a relay for so many jobs and hands has ended
abbrev pub SomeHasEnded : ℕ → ℕ → List Known → Type 0
SomeHasEnded count hands views =
    (j : ℕ) × (v : Known) × (get_elem? views j ≡ some v) × (v.all ≡ all_items count hands) × (v.ended ≡ true)

-- the item x was put after the others, by who goes on filling
abbrev pub puts : Known → Item → Known → Type 0
puts v x w = (w.role ≡ Filling) × (w.all ≡ v.all ++ x ∷ [])

-- the place follows those of the list: it is greater than each
abbrev pub IsAbove : List ℕ → ℕ → Type 0
IsAbove places place = All (λ earlier. earlier < place) places

-- the item x was popped, from a place that is greater than each that this hand had
abbrev pub Popped : Known → Item → Known → Type 0
Popped v x w =
    (w.all ≡ v.all) × (w.role ≡ v.role) × (w.ended ≡ is_end_mark x)
    × ((place : ℕ) × (w.places ≡ v.places ++ place ∷ []) × (get_elem? v.all place ≡ some x) × IsAbove v.places place)
