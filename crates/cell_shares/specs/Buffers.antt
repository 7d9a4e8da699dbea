-- Parts of one buffer.
use Rattle.std.specs.Prelude.{◌≡◌, ℕ, List}
use Rattle.std.specs.Ptr.{Ptr}
use Rattle.cell_shares.specs.declared.order.Order.{Order}
use Rattle.cell_shares.specs.declared.part.Part.{Part}
use Rattle.cell_shares.specs.Orders.{order_places}
use Rattle.cell_shares.specs.Parts.{places, Shuffled}

-- the part has these cells of the buffer of n places at p
abbrev pub IsPartOf : {X : Type 0} → Ptr → ℕ → List (ℕ × X) → Part X → Type 0
IsPartOf p n cells part = (part.ptr ≡ p) × (part.count ≡ n) × (part.cells ≡ cells)

-- the part `after` has the cells of `before`, at the places of an order
abbrev pub IsArranged : {X : Type 0} → Order → (before after : Part X) → Type 0
IsArranged order before after = (after.ptr ≡ before.ptr) × (after.count ≡ before.count)
    × Shuffled before.cells after.cells × (places after.cells ≡ order_places order before.count)
