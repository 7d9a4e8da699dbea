-- The lengths of soft streams and of decoded bits.
use Rattle.std.proofs.Common.{◌≡◌, ℕ, suc, ◌+◌, ◌-◌, ◌*◌, ◌<◌, ◌≤◌, ℤ, pos, List, ◌++◌, length, map, drop, replicate, refl, ◌∙◌, arith}
use Rattle.std.proofs.lemmas.List.{length-append, length-drop, length-map, length-replicate}
use Rattle.std.proofs.lemmas.List.FromFn.{length-map-range_with_len}
use Rattle.lte_bits.specs.declared.bit.Bit.TheVariants.{Zero}
use Rattle.lte_bits.specs.declared.block.SoftStreams.{SoftStreams}
use Rattle.model_receiver.specs.HalfIteration.{Shape}
use Rattle.model_receiver.specs.Decoding.{before, decided_bit, decided_in}
use Rattle.soft_buffers.specs.Buffers.{cell_of, cells_of_stream, streams_of_cells}

-- the first n values replaced
replaced : {X : Type 0} (n : ℕ) (x : X) (xs : List X) → n ≤ length xs → length (replicate n x ++ drop n xs) ≡ length xs
replaced n x xs within =
    let e : length (replicate n x ++ drop n xs) ≡ length (replicate n x) + length (drop n xs) = length-append (replicate n x) (drop n xs) in
    omega (arith, e, length-replicate n x, length-drop n xs, within)

-- streams of a block of k bits with so many fillers
pub record AreStreamsOf (k f : ℕ) (soft : SoftStreams) : Type 0 where
  pub fill : soft.fill ≡ f
  pub d0 : length soft.d0 ≡ k + 4
  pub d1 : length soft.d1 ≡ k + 4
  pub d2 : length soft.d2 ≡ k + 4

pub streams-long : (k f : ℕ) (cells : List ℤ) → f < k → AreStreamsOf k f (streams_of_cells k f cells)
streams-long k f cells fills =
    let long : (number : ℕ) → length (cells_of_stream k cells number) ≡ k + 4 =
    λ number. length-map-range_with_len (λ i. cell_of k cells (record { stream = number; index = i })) 0 (k + 4) in
    record {
      fill = refl;
      d0 = replaced f (pos 127) (cells_of_stream k cells 0) (omega (arith, long 0, fills)) ∙ long 0;
      d1 = replaced f (pos 0) (cells_of_stream k cells 1) (omega (arith, long 1, fills)) ∙ long 1;
      d2 = long 2;
    }

cells-long : (soft : SoftStreams) (shape : Shape) (h : ℕ) → length (before soft shape (suc h)).cells ≡ shape.k
unfolding before
cells-long soft shape h = length-map-range_with_len _ 0 shape.k

pub bits-long : (soft : SoftStreams) (shape : Shape) (n : ℕ) → shape.f ≤ shape.k → length (decided_in soft shape n) ≡ shape.k
bits-long soft shape n fills =
    let cells = (before soft shape (suc (2 * n - 1))).cells in
    let long : length (map decided_bit cells) ≡ shape.k = length-map cells decided_bit ∙ cells-long soft shape (2 * n - 1) in
    replaced shape.f Zero (map decided_bit cells) (omega (arith, long, fills)) ∙ long
