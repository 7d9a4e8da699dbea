-- What contracts see of the soft buffers of a transport block.
use Rattle.std.specs.Prelude.{◌≡◌, ℕ, ◌+◌, ◌*◌, ◌<◌, ◌≤◌, ℤ, pos, Option, List, [], fold, length, map, slice_index_or}
use Rattle.std.specs.List.{range_with_len}
use Rattle.lte_bits.specs.declared.block.SoftStreams.{SoftStreams}
use Rattle.model_sender.specs.Segmentation.{Plan, size}
use Rattle.model_sender.specs.declared.spot.Spot.{Spot}
use Rattle.model_receiver.specs.SoftCells.{Reception, added, begun_with, soft_cell, values_of}

-- the plan of the transport block, N_IR or None for a full buffer, and the cells of each code block: those of
-- d0, then of d1, then of d2
pub record Buffers : Type 0 where
  pub plan : Plan
  pub limit : Option ℕ
  pub cells : List (List ℤ)

-- a bit of the streams of a block of k bits
pub record IsBit (k : ℕ) (s : Spot) : Type 0 where
  pub stream : s.stream ≤ 2
  pub index : s.index < k + 4

-- where its cell stands, and its cell
abbrev pub cell_index : ℕ → Spot → ℕ
cell_index k s = s.stream * (k + 4) + s.index

abbrev pub cell_of : ℕ → List ℤ → Spot → ℤ
cell_of k cells s = slice_index_or cells (cell_index k s) (pos 0)

abbrev pub cells_of_block : List (List ℤ) → ℕ → List ℤ
cells_of_block blocks r = slice_index_or blocks r []

-- each block of the plan has a cell for each bit of its streams
abbrev pub AreLong : Plan → List (List ℤ) → Type 0
AreLong plan blocks = (r : ℕ) → r < plan.c → length (cells_of_block blocks r) ≡ 3 * (size plan r + 4)

-- the cells of stream 0, 1 or 2 of a block of k bits
abbrev pub cells_of_stream : ℕ → List ℤ → ℕ → List ℤ
cells_of_stream k cells number = map (λ i. cell_of k cells (record { stream = number; index = i })) (range_with_len 0 (k + 4))

-- the soft streams of a block of k bits with these cells, of whose first bits so many are fillers: those are
-- known to be 0 in d0, and nothing is known of them in d1
abbrev pub streams_of_cells : ℕ → ℕ → List ℤ → SoftStreams
streams_of_cells k fill cells = record {
  fill = fill;
  d0 = begun_with fill (pos 127) (cells_of_stream k cells 0);
  d1 = begun_with fill (pos 0) (cells_of_stream k cells 1);
  d2 = cells_of_stream k cells 2;
}

-- the cell of each bit of block r has taken the values of a reception that belong to the bit
abbrev pub HasTaken : Plan → Reception → ℕ → (old new : List ℤ) → Type 0
HasTaken plan x r old new = (s : Spot) → IsBit (size plan r) s →
    cell_of (size plan r) new s ≡ fold added (cell_of (size plan r) old s) (values_of plan x r s)

-- in every block of the plan
abbrev pub HaveTaken : Plan → Reception → (old new : List (List ℤ)) → Type 0
HaveTaken plan x old new = (r : ℕ) → r < plan.c → HasTaken plan x r (cells_of_block old r) (cells_of_block new r)

-- every cell is that of these receptions
abbrev pub Hold : Buffers → List Reception → Type 0
Hold b xs = (r : ℕ) → r < b.plan.c → (s : Spot) → IsBit (size b.plan r) s →
    cell_of (size b.plan r) (cells_of_block b.cells r) s ≡ soft_cell b.plan xs r s
