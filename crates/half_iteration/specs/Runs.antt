-- One window of a half iteration, and a half that has come some way.
use Rattle.std.specs.Prelude.{◌≡◌, ℕ, ◌+◌, ◌*◌, ◌<◌, ◌≤◌, List, length, map}
use Rattle.lte_bits.specs.declared.block.SoftStreams.{SoftStreams}
use Rattle.model_receiver.specs.Borders.{Border}
use Rattle.model_receiver.specs.Paths.{Window}
use Rattle.model_receiver.specs.Windows.{Extrinsic, window_between, cell_at, new_cells, forward_left, backward_left}
use Rattle.model_receiver.specs.HalfIteration.{Shape, Before, BordersLeft, window_width, positions, order, systematic_at, parity_at, left_by, start_border, renewed, left_after}

-- window t of half h between two borders, over the cells of all places
abbrev pub window_from : SoftStreams → Shape → ℕ → ℕ → Border → Border → List Extrinsic → Window
window_from soft shape h t start end cells =
    window_between start end
    (map (systematic_at soft shape.k h) (positions shape t))
    (map (parity_at soft h) (positions shape t))
    (map (λ i. cell_at cells (order shape.k h i)) (positions shape t))

abbrev pub left_of : Window → BordersLeft
left_of w = record { forward = forward_left w; backward = backward_left w }

-- the cells of window t are replaced by those that w leaves, and all others stay
pub record IsReplaced (shape : Shape) (h t : ℕ) (w : Window) (old new : List Extrinsic) : Type 0 where
  pub long : length new ≡ shape.k
  pub replaced : (j : ℕ) → j < window_width shape
      → cell_at new (order shape.k h (t * window_width shape + j)) ≡ cell_at (new_cells w) j
  pub before : (i : ℕ) → i < t * window_width shape
      → cell_at new (order shape.k h i) ≡ cell_at old (order shape.k h i)
  pub later : (i : ℕ) → (t + 1) * window_width shape ≤ i → i < shape.k
      → cell_at new (order shape.k h i) ≡ cell_at old (order shape.k h i)

-- what a half starts from, as far as it matters: the cells, and the borders that each window left two halves
-- ago
abbrev pub start_of : List Extrinsic → List BordersLeft → Before
start_of cells left = record { cells = cells; left = left; left_before_last = left }

-- half h, begun from b, where the windows before t are done: the cells by now, and the borders by window, of
-- which those of the windows from t on are still those of two halves ago
pub record IsPartDone
    (soft : SoftStreams) (shape : Shape) (h : ℕ) (b : Before)
    (t : ℕ) (cells : List Extrinsic) (left : List BordersLeft) (start : Border) : Type 0 where
  pub long : length cells ≡ shape.k
  pub done : (i : ℕ) → i < t * window_width shape
      → cell_at cells (order shape.k h i) ≡ renewed soft shape h b i
  pub to_do : (i : ℕ) → t * window_width shape ≤ i → i < shape.k
      → cell_at cells (order shape.k h i) ≡ cell_at b.cells (order shape.k h i)
  pub left_long : length left ≡ shape.windows
  pub left_done : (u : ℕ) → u < t → left_by left u ≡ left_after soft shape h b u
  pub left_to_do : (u : ℕ) → t ≤ u → left_by left u ≡ left_by b.left_before_last u
  pub begins : start ≡ start_border b t
