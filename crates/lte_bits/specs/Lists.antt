-- What a list is after its elements were lent, and what one of another length is.
use Rattle.std.specs.Prelude.{ℕ, List, ◌++◌, length, take, replicate, ◌-◌}
use Rattle.std.specs.List.{refill}
use Rattle.std.specs.Borrow.{Lends, Fml, RattleType, MutBor, Array}
use Rattle.lte_bits.specs.contracts.list.List.{the_row as list_row}

-- once the borrow r ends, the list has the elements that r shows last
abbrev pub LendsElements : (T : RattleType) → MutBor (List T.Denot) → MutBor (List T.Denot) → Fml
LendsElements T v r = Lends (list_row T) (Array T 0) v r (refill (length v.now) v.now)

-- the first n elements, followed by as many x as are missing to n
abbrev pub resized : {X : Type 0} → List X → ℕ → X → List X
resized xs n x = take n xs ++ replicate (n - length xs) x
