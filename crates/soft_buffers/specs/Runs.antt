-- The values of bits that stand one after the other.
use Rattle.std.specs.Prelude.{ℕ, zero, suc, ℤ, pos, List, slice_index_or, slice_set}
use Rattle.model_sender.specs.declared.spot.Spot.{Spot}
use Rattle.model_receiver.specs.SoftCells.{added}
use Rattle.soft_buffers.specs.Buffers.{cell_index, cell_of}

-- the cells of a block of k bits with a value of a bit more
abbrev pub with_value : ℕ → Spot → ℤ → List ℤ → List ℤ
with_value k b v cells = slice_set cells (cell_index k b) (added (cell_of k cells b) v)

-- with the first m values, which are of the bits 0, 1, ..
abbrev pub with_values : ℕ → (ℕ → Spot) → List ℤ → ℕ → List ℤ → List ℤ
with_values k bits values zero cells = cells
with_values k bits values (suc m) cells = with_value k (bits m) (slice_index_or values m (pos 0)) (with_values k bits values m cells)
