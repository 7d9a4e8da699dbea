-- What contracts see of cells and of their shares.
use Rattle.std.specs.Prelude.{◌≡◌, ℕ, ◌+◌, ◌*◌, ◌≤◌, List, length, map}
use Rattle.std.specs.List.{range_with_len}
use Rattle.cell_shares.specs.declared.cells.Cells.{Cells}
use Rattle.cell_shares.specs.declared.order.Order.{Order}
use Rattle.cell_shares.specs.declared.share.Share.{Share}
use Rattle.cell_shares.specs.Names.{Name}
use Rattle.cell_shares.specs.Orders.{place_in}
use Rattle.cell_shares.specs.Parts.{values}

-- the name of cells
abbrev pub name_of : {X : Type 0} → Cells X → Name
name_of c = record { start = c.part.ptr; count = c.part.count; windows = c.windows }

abbrev pub cell_values : {X : Type 0} → Cells X → List X
cell_values c = values c.part.cells

-- a share's cells' name, its order, its number t and its W values
abbrev pub share_name : {X : Type 0} → Share X → Name
share_name s = record { start = s.part.ptr; count = s.part.count; windows = s.split.windows }

abbrev pub share_order : {X : Type 0} → Share X → Order
share_order s = s.split.order

abbrev pub share_number : {X : Type 0} → Share X → ℕ
share_number s = s.number

abbrev pub share_values : {X : Type 0} → Share X → List X
share_values s = values s.part.cells

-- the place order(t W + j) of its cell j
abbrev pub share_place : {X : Type 0} → Share X → ℕ → ℕ
share_place s j = place_in (share_order s) (share_number s * length (share_values s) + j)

abbrev pub share_label : {X : Type 0} → Share X → Name × (Order × ℕ)
share_label s = (share_name s, (share_order s, share_number s))

-- all shares of one split, in order: M shares of one name and one order, numbered 0 to M - 1
abbrev pub AreAllOf : {X : Type 0} → Name → Order → List (Share X) → Type 0
AreAllOf name order shares =
    (1 ≤ name.windows)
    × (map share_label shares ≡ map (λ t. (name, (order, t))) (range_with_len 0 name.windows))
