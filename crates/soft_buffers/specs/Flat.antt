-- The cells of all code blocks of a transport block in one list, block after block.
use Rattle.std.specs.Prelude.{ℕ, ◌+◌, ◌*◌, ◌/◌, ◌%◌, ℤ, List, map, flat_map, fold}
use Rattle.std.specs.List.{range_with_len}
use Rattle.model_sender.specs.Segmentation.{Plan, size}
use Rattle.model_sender.specs.declared.spot.Spot.{Spot}
use Rattle.model_receiver.specs.SoftCells.{Reception, added, values_of}
use Rattle.soft_buffers.specs.Buffers.{cell_of, cells_of_block}
use Rattle.soft_buffers.specs.Parts.{before, parts}

-- the cells of block r: one for each bit of its three streams
abbrev pub cells_in : Plan → ℕ → ℕ
cells_in plan r = 3 * (size plan r + 4)

-- those of all blocks
abbrev pub cell_count : Plan → ℕ
cell_count plan = before (cells_in plan) plan.c

-- the cells of each block
abbrev pub by_block : Plan → List ℤ → List (List ℤ)
by_block plan cells = parts (cells_in plan) plan.c cells

-- the bit of a block of k bits whose cell stands at place n: d0 is first, then d1, then d2
abbrev pub bit_of_cell : ℕ → ℕ → Spot
bit_of_cell k n = record { stream = n / (k + 4); index = n % (k + 4) }

-- the cell at place n of block r, which has taken the values of a reception that belong to its bit
abbrev pub combined_cell : Plan → Reception → List (List ℤ) → ℕ → ℕ → ℤ
combined_cell plan x blocks r n =
    let s = bit_of_cell (size plan r) n in
    fold added (cell_of (size plan r) (cells_of_block blocks r) s) (values_of plan x r s)

abbrev pub combined_block : Plan → Reception → List (List ℤ) → ℕ → List ℤ
combined_block plan x blocks r = map (combined_cell plan x blocks r) (range_with_len 0 (cells_in plan r))

-- all cells, which have taken a reception
unfoldable pub combined : Plan → Reception → List ℤ → List ℤ
combined plan x cells = flat_map (combined_block plan x (by_block plan cells)) (range_with_len 0 plan.c)
