-- The cells of a window among those of all places.
use Rattle.std.specs.Prelude.{ℕ, List, [], ◌∷◌, map, slice_set}
use Rattle.model_receiver.specs.Windows.{Extrinsic, zero_cell, cell_at}

-- the cells at some places
abbrev pub cells_at : List ℕ → List Extrinsic → List Extrinsic
cells_at places cells = map (cell_at cells) places

-- the cells, with 0 at some places: what stands elsewhere
abbrev pub elsewhere : List ℕ → List Extrinsic → List Extrinsic
elsewhere [] cells = cells
elsewhere (n ∷ places) cells = elsewhere places (slice_set cells n zero_cell)
