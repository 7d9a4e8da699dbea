-- The streams of a block that are cut from its cells.
use Rattle.std.proofs.Common.{◌≡◌, ℕ, ◌+◌, ◌*◌, ◌<◌, ◌≤◌, ℤ, pos, List, length, take, drop, get_or, ap, ◌∙◌, arith}
use Rattle.std.proofs.lemmas.List.{get_or-take, get_or-drop, length-take, length-drop}
use Rattle.std.proofs.lemmas.List.FromFn.{fill_by_all, get_or-map-range_with_len, length-map-range_with_len}
use Rattle.lte_bits.specs.declared.block.SoftStreams.{SoftStreams}
use Rattle.model_sender.specs.Segmentation.{Plan, size, fill}
use Rattle.model_sender.specs.declared.spot.Spot.{Spot}
use Rattle.model_receiver.specs.SoftCells.{Reception, begun_with, cells_of, soft_cell, soft_streams}
use Rattle.soft_buffers.specs.Buffers.{IsBit, cell_of, cells_of_stream, streams_of_cells}

abbrev streams : ℕ → List ℤ → List ℤ → List ℤ → SoftStreams
streams f a b d = record { fill = f; d0 = a; d1 = b; d2 = d }

pub streams_with : (f : ℕ) {a b d x y z : List ℤ} → a ≡ x → b ≡ y → d ≡ z → streams f a b d ≡ streams f x y z
streams_with f p q r i = streams f (p i) (q i) (r i)

pub same_cells : {k l f g : ℕ} {xs ys : List ℤ} → k ≡ l → f ≡ g → xs ≡ ys → streams_of_cells k f xs ≡ streams_of_cells l g ys
same_cells p q r i = streams_of_cells (p i) (q i) (r i)

-- the bit of a stream with an index
abbrev bit : ℕ → ℕ → Spot
bit number i = record { stream = number; index = i }

-- ---- thirds of the cells

stream-is : (k number : ℕ) (cells part : List ℤ) → length part ≡ k + 4
    → ((i : ℕ) → i < k + 4 → get_or part i (pos 0) ≡ get_or cells (number * (k + 4) + i) (pos 0)) → part ≡ cells_of_stream k cells number
stream-is k number cells part long at = fill_by_all (λ i. cell_of k cells (bit number i)) part (k + 4) (pos 0) long at

first-is : (k : ℕ) (cells : List ℤ) → length cells ≡ 3 * (k + 4) → take (k + 4) cells ≡ cells_of_stream k cells 0
first-is k cells long =
    stream-is k 0 cells (take (k + 4) cells) (omega (arith, length-take (k + 4) cells, long))
    (λ i below. get_or-take (k + 4) cells i (pos 0) below ∙ ap (λ (n : ℕ). get_or cells n (pos 0)) (let e : i ≡ 0 * (k + 4) + i = omega arith in e))

second-is : (k : ℕ) (cells : List ℤ) → length cells ≡ 3 * (k + 4) → take (k + 4) (drop (k + 4) cells) ≡ cells_of_stream k cells 1
second-is k cells long =
    let w : ℕ = k + 4 in
    stream-is k 1 cells (take w (drop w cells)) (omega (arith, length-take w (drop w cells), length-drop w cells, long))
    (λ i below. get_or-take w (drop w cells) i (pos 0) below ∙ get_or-drop w cells i (pos 0)
    ∙ ap (λ (n : ℕ). get_or cells n (pos 0)) (let e : k + 4 + i ≡ 1 * (k + 4) + i = omega arith in e))

third-is : (k : ℕ) (cells : List ℤ) → length cells ≡ 3 * (k + 4) → drop (k + 4) (drop (k + 4) cells) ≡ cells_of_stream k cells 2
third-is k cells long =
    let w : ℕ = k + 4 in
    stream-is k 2 cells (drop w (drop w cells)) (omega (arith, length-drop w (drop w cells), length-drop w cells, long))
    (λ i below. get_or-drop w (drop w cells) i (pos 0) ∙ get_or-drop w cells (w + i) (pos 0)
    ∙ ap (λ (n : ℕ). get_or cells n (pos 0)) (let e : k + 4 + (k + 4 + i) ≡ 2 * (k + 4) + i = omega arith in e))

pub cut-is : (k f : ℕ) (cells : List ℤ) → length cells ≡ 3 * (k + 4)
    → streams f (begun_with f (pos 127) (take (k + 4) cells)) (begun_with f (pos 0) (take (k + 4) (drop (k + 4) cells))) (drop (k + 4) (drop (k + 4) cells)) ≡ streams_of_cells k f cells
cut-is k f cells long = streams_with f (ap (begun_with f (pos 127)) (first-is k cells long)) (ap (begun_with f (pos 0)) (second-is k cells long)) (third-is k cells long)

-- ---- cells of receptions

pub streams-are : (plan : Plan) (xs : List Reception) (r : ℕ) (cells : List ℤ) → ((s : Spot) → IsBit (size plan r) s → cell_of (size plan r) cells s ≡ soft_cell plan xs r s)
    → streams_of_cells (size plan r) (fill plan r) cells ≡ soft_streams plan xs r
unfolding soft_streams
streams-are plan xs r cells each =
    streams_with (fill plan r) (ap (begun_with (fill plan r) (pos 127)) (one 0 (omega arith))) (ap (begun_with (fill plan r) (pos 0)) (one 1 (omega arith))) (one 2 (omega arith))
  where
    k : ℕ
    k = size plan r

    one : (number : ℕ) → number ≤ 2 → cells_of_stream k cells number ≡ cells_of plan xs r number
    one number few =
        fill_by_all (λ i. soft_cell plan xs r (bit number i)) (cells_of_stream k cells number) (k + 4) (pos 0)
        (length-map-range_with_len (λ i. cell_of k cells (bit number i)) 0 (k + 4))
        (λ i below. get_or-map-range_with_len (λ i. cell_of k cells (bit number i)) 0 (k + 4) i i (pos 0) below (omega arith)
        ∙ each (bit number i) (record { stream = few; index = below }))
