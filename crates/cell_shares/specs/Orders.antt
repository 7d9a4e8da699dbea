-- The orders of places.
use Rattle.std.specs.Prelude.{◌≡◌, ℕ, List, map}
use Rattle.std.specs.List.{range_with_len}
use Rattle.qpp_table.specs.Qpp.{size_in, value_at}
use Rattle.cell_shares.specs.declared.order.Order.{Order}
use Rattle.cell_shares.specs.declared.order.Order.TheVariants.{Natural, Interleaved}

-- the place of position i
abbrev pub place_in : Order → ℕ → ℕ
place_in Natural i = i
place_in (Interleaved q) i = value_at q i

-- the number of places that an order has, where it has k if it is natural
abbrev pub order_size : ℕ → Order → ℕ
order_size k Natural = k
order_size k (Interleaved q) = size_in q

-- an order of k places: an interleaver has size k
abbrev pub IsOrderOf : ℕ → Order → Type 0
IsOrderOf k order = order_size k order ≡ k

-- the places of its first k positions
abbrev pub order_places : Order → ℕ → List ℕ
order_places order k = map (λ i. place_in order i) (range_with_len 0 k)
