use Rattle.std.proofs.Common.{◌≡◌, ℕ, ◌<◌, take}
use Rattle.std.specs.Prelude.{slice_index_or, false, true}
use Rattle.core.specs.Mem.Slots.{slots_items, slots_filled, slots_ptr, slots_len}
use Rattle.cell_shares.proofs.cells.fill.Given as goal

abbrev pub invariant-loop-n : goal.invariant-loop-n
invariant-loop-n g l =
    (slots_ptr l.row ≡ slots_ptr l.fn.row) × (slots_len l.row ≡ slots_len l.fn.row) × (take l.n (slots_items l.row) ≡ take l.n l.values)
    × ((k : ℕ) → k < l.n → slice_index_or (slots_filled l.row) k false ≡ true)
