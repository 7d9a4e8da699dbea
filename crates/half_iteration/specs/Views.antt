-- The lists in which a code block is read.
use Rattle.std.specs.Prelude.{◌≡◌, ℕ, ◌+◌, ◌*◌, ◌≤◌, Contains, List, length, map}
use Rattle.std.specs.List.{range_with_len}
use Rattle.lte_bits.specs.declared.block.SoftStreams.{SoftStreams}
use Rattle.model_sender.specs.Interleaver.{sizes}
use Rattle.model_receiver.specs.HalfIteration.{Shape, window_width}

-- the soft values of a code block of a shape
pub record AreStreams (soft : SoftStreams) (shape : Shape) : Type 0 where
  pub fill : soft.fill ≡ shape.f
  pub d0 : length soft.d0 ≡ shape.k + 4
  pub d1 : length soft.d1 ≡ shape.k + 4
  pub d2 : length soft.d2 ≡ shape.k + 4

-- a value for each position of a code block
abbrev pub by_position : {X : Type 0} → Shape → (ℕ → X) → List X
by_position shape f = map f (range_with_len 0 shape.k)

-- the windows of a shape cover its positions
pub record AreWhole (shape : Shape) : Type 0 where
  pub size : Contains sizes shape.k
  pub whole : shape.windows * window_width shape ≡ shape.k
  pub wide : 8 ≤ window_width shape
