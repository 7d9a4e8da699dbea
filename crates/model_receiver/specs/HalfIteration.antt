-- Half an iteration over a code block: all windows read the old cells, and all cells are replaced.
use Rattle.std.specs.Prelude.{ℕ, ◌+◌, ◌-◌, ◌*◌, ◌/◌, ◌%◌, ◌<◌, ◌≤◌, ◌==◌, if◌then◌else◌, ℤ, List, [], ◌∷◌, map, replicate, find, unwrap_or, slice_index_or, Contains}
use Prim.Native.Nat.{◌∣◌}
use Rattle.std.specs.List.{range_with_len}
use Rattle.lte_bits.specs.declared.block.SoftStreams.{SoftStreams}
use Rattle.model_sender.specs.Interleaver.{sizes, place}
use Rattle.model_receiver.specs.declared.result.CheckKind.{CheckKind}
use Rattle.model_receiver.specs.Borders.{Border, at, unknown, known, tail}
use Rattle.model_receiver.specs.Paths.{Window}
use Rattle.model_receiver.specs.Windows.{Extrinsic, window_between, zero_cell, cell_at, new_cells, forward_left, backward_left}

-- the size of a code block, its fillers and check, the windows of a half, and the limit of iterations
pub record Shape : Type 0 where
  pub k : ℕ
  pub f : ℕ
  pub kind : CheckKind
  pub windows : ℕ
  pub limit : ℕ

abbrev pub shape_of : (k f : ℕ) → CheckKind → (windows limit : ℕ) → Shape
shape_of k f kind windows limit = record { k = k; f = f; kind = kind; windows = windows; limit = limit }

-- what every shape keeps
pub record IsShape (shape : Shape) : Type 0 where
  pub size : Contains sizes shape.k
  pub filled : shape.f < shape.k
  pub some_windows : 1 ≤ shape.windows
  pub few_windows : shape.windows ≤ 64
  pub divided : shape.windows ∣ shape.k
  pub wide : 8 * shape.windows ≤ shape.k
  pub some_iterations : 1 ≤ shape.limit
  pub few_iterations : shape.limit ≤ 16

-- the positions of each window
abbrev pub window_width : Shape → ℕ
window_width shape = shape.k / shape.windows

abbrev pub positions : Shape → ℕ → List ℕ
positions shape t = range_with_len (t * window_width shape) (window_width shape)

-- the place for which position i stands in half h: itself in even halves, Pi(i) in odd ones
abbrev pub order : ℕ → ℕ → ℕ → ℕ
order k h i = if h % 2 == 0 then i else place k i

-- the systematic and the parity value of position i
abbrev pub systematic_at : SoftStreams → ℕ → ℕ → ℕ → ℤ
systematic_at soft k h i = at soft.d0 (order k h i)

abbrev pub parity_at : SoftStreams → ℕ → ℕ → ℤ
parity_at soft h i = if h % 2 == 0 then at soft.d1 i else at soft.d2 i

-- the soft values of the tail's input bits and of its parity bits: the first coder's in even halves, the
-- second coder's in odd ones (36.212 5.1.3.2.2)
abbrev pub tail_inputs : SoftStreams → ℕ → ℕ → List ℤ
tail_inputs soft k h =
    if h % 2 == 0
    then at soft.d0 k ∷ at soft.d2 k ∷ at soft.d1 (k + 1) ∷ []
    else at soft.d0 (k + 2) ∷ at soft.d2 (k + 2) ∷ at soft.d1 (k + 3) ∷ []

abbrev pub tail_parities : SoftStreams → ℕ → ℕ → List ℤ
tail_parities soft k h =
    if h % 2 == 0
    then at soft.d1 k ∷ at soft.d0 (k + 1) ∷ at soft.d2 (k + 1) ∷ []
    else at soft.d1 (k + 2) ∷ at soft.d0 (k + 3) ∷ at soft.d2 (k + 3) ∷ []

abbrev pub tail_border : SoftStreams → ℕ → ℕ → Border
tail_border soft k h = tail (tail_inputs soft k h) (tail_parities soft k h)

-- the borders that a window left
pub record BordersLeft : Type 0 where
  pub forward : Border
  pub backward : Border

abbrev pub none_left : BordersLeft
none_left = record { forward = unknown; backward = unknown }

-- the borders that window t left, of a list with one entry for each window
abbrev pub left_by : List BordersLeft → ℕ → BordersLeft
left_by left t = slice_index_or left t none_left

-- what a half starts from: the cell of each place, and the borders that each window left in the half before
-- and in the one before that
pub record Before : Type 0 where
  pub cells : List Extrinsic
  pub left : List BordersLeft
  pub left_before_last : List BordersLeft

-- all cells are 0, and no borders are known
abbrev pub opening : Shape → Before
opening shape = record {
  cells = replicate shape.k zero_cell;
  left = replicate shape.windows none_left;
  left_before_last = replicate shape.windows none_left;
}

-- the borders with which window t of some windows starts and ends, by those that each window left
abbrev pub start_by : List BordersLeft → ℕ → Border
start_by left t = if t == 0 then known else (left_by left (t - 1)).forward

abbrev pub end_by : ℕ → List BordersLeft → Border → ℕ → Border
end_by windows left tail t = if t + 1 == windows then tail else (left_by left (t + 1)).backward

-- the same in a half: its neighbours left them two halves ago, in the half of the same order
abbrev pub start_border : Before → ℕ → Border
start_border b t = start_by b.left_before_last t

abbrev pub end_border : SoftStreams → Shape → ℕ → Before → ℕ → Border
end_border soft shape h b t = end_by shape.windows b.left_before_last (tail_border soft shape.k h) t

-- the cells at the positions of window t
abbrev pub cells_in : Shape → ℕ → Before → ℕ → List Extrinsic
cells_in shape h b t = map (λ i. cell_at b.cells (order shape.k h i)) (positions shape t)

-- window t of half h
abbrev pub window : SoftStreams → Shape → ℕ → Before → ℕ → Window
window soft shape h b t =
    window_between (start_border b t) (end_border soft shape h b t)
    (map (systematic_at soft shape.k h) (positions shape t))
    (map (parity_at soft h) (positions shape t))
    (cells_in shape h b t)

-- the new cell of position i, which is position i mod W of window i / W
abbrev pub renewed : SoftStreams → Shape → ℕ → Before → ℕ → Extrinsic
renewed soft shape h b i =
    cell_at (new_cells (window soft shape h b (i / window_width shape))) (i % window_width shape)

-- the position that stands for place n
abbrev pub position_of : ℕ → ℕ → ℕ → ℕ
position_of k h n = unwrap_or (find (λ i. order k h i == n) (range_with_len 0 k)) 0

abbrev pub left_after : SoftStreams → Shape → ℕ → Before → ℕ → BordersLeft
left_after soft shape h b t = record {
  forward = forward_left (window soft shape h b t);
  backward = backward_left (window soft shape h b t);
}

-- what half h leaves to the next
abbrev pub after : SoftStreams → Shape → ℕ → Before → Before
after soft shape h b = record {
  cells = map (λ n. renewed soft shape h b (position_of shape.k h n)) (range_with_len 0 shape.k);
  left = map (left_after soft shape h b) (range_with_len 0 shape.windows);
  left_before_last = b.left;
}
