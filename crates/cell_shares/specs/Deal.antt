-- The values of a list, dealt to several shares.
use Rattle.std.specs.Prelude.{ℕ, ◌*◌, ◌/◌, List, map, length, take, drop}
use Rattle.std.specs.List.{range_with_len, flat_map}
use Rattle.cell_shares.specs.declared.order.Order.{Order}
use Rattle.cell_shares.specs.Orders.{place_in}

-- the places order(t w + j) for j below w
abbrev pub share_places : Order → (w t : ℕ) → List ℕ
share_places order w t = map (λ i. place_in order i) (range_with_len (t * w) w)

-- the values that v has at some places
abbrev pub values_at : {X : Type 0} → List X → List ℕ → List X
values_at v places = flat_map (λ n. take 1 (drop n v)) places

-- m lists: for w = K/m, list t has v at order(t w + j) for j below w
abbrev pub deal : {X : Type 0} → Order → (m : ℕ) → List X → List (List X)
deal order m v = map (λ t. values_at v (share_places order (length v / m) t)) (range_with_len 0 m)
