-- The blocks that a payload is cut into.
use Rattle.std.proofs.Common.{◌≡◌, ℕ, zero, suc, ◌+◌, ◌<◌, ◌≤◌, nat_lt, Bool, true, false, cond, List, ◌∷◌, ◌++◌, length, map, take, drop, refl, ap, ◌∙◌, arith}
use Rattle.std.specs.List.{range_with_len}
use Rattle.std.proofs.lemmas.List.{length-append, length-drop, length-take-le}
use Rattle.lte_bits.specs.declared.bit.Bit.{Bit}
use Rattle.lte_bits.specs.declared.block.Block.{Block}
use Rattle.model_sender.specs.CheckBits.{crc, crc24b}
use Rattle.model_sender.specs.Segmentation.{Plan, check_length, plan_of, size, fill}
use Rattle.model_sender.specs.CodeBlocks.{before, block, blocks, checked, share, sequence}
use Rattle.model_sender.proofs.CheckBitLaws.{length-crc}
use Rattle.segmentation.specs.Shape.{AreBlocksOf}
use Rattle.segmentation.proofs.BlockSizes.{block-size, before-within}
use Rattle.segmentation.proofs.OfPlans.{is_plan}

-- ---- one block

-- a block takes its share of S
pub length-piece : (payload : List ℕ) (r : ℕ) → 1 ≤ length payload → length payload ≤ 18722 → r < (plan_of (length payload)).c
    → length (take (share (plan_of (length payload)) r) (drop (before (plan_of (length payload)) r) (sequence (plan_of (length payload)) payload))) ≡ share (plan_of (length payload)) r
length-piece payload r some few below =
    let p : Plan = plan_of (length payload) in
    let all : List Bit = sequence p payload in
    length-take-le (share p r) (drop (before p r) all) (omega (arith, length-drop (before p r) all, before-within payload r some few below))

pub length-checked : (c : ℕ) (bits : List Bit) → length (checked c bits) ≡ length bits + check_length c
length-checked c bits = by_test (nat_lt 1 c)
  where
    by_test : (t : Bool) → length (cond t (bits ++ crc crc24b bits) bits) ≡ length bits + cond t 24 0
    by_test true = length-append bits (crc crc24b bits) ∙ ap (λ (n : ℕ). length bits + n) (length-crc crc24b bits)
    by_test false = let e : length bits ≡ length bits + 0 = omega arith in e

-- and has the size of the plan
pub length-block : (payload : List ℕ) (r : ℕ) → 1 ≤ length payload → length payload ≤ 18722 → r < (plan_of (length payload)).c
    → length (block (plan_of (length payload)) payload r).bits ≡ size (plan_of (length payload)) r
length-block payload r some few below =
    let p : Plan = plan_of (length payload) in
    let piece : List Bit = take (share p r) (drop (before p r) (sequence p payload)) in
    omega (arith, length-checked p.c piece, length-piece payload r some few below, (block-size p r (is_plan (length payload) some few)).own)

-- ---- all blocks

map-map-range : {X Y : Type 0} (g : X → Y) (f : ℕ → X) (h : ℕ → Y) (a n : ℕ) → ((r : ℕ) → a ≤ r → r < a + n → g (f r) ≡ h r) → map g (map f (range_with_len a n)) ≡ map h (range_with_len a n)
map-map-range g f h a zero same = refl
map-map-range g f h a (suc n) same =
    ap (λ y. y ∷ map g (map f (range_with_len (a + 1) n))) (same a (omega arith) (omega arith))
    ∙ ap (λ ys. h a ∷ ys) (map-map-range g f h (a + 1) n (λ r le lt. same r (omega (arith, le)) (omega (arith, lt))))

pub blocks-shape : (payload : List ℕ) → 1 ≤ length payload → length payload ≤ 18722 → AreBlocksOf (plan_of (length payload)) (blocks (plan_of (length payload)) payload)
blocks-shape payload some few =
    let p : Plan = plan_of (length payload) in
    record {
      sizes = map-map-range (λ (b : Block). length b.bits) (block p payload) (size p) 0 p.c (λ r le lt. length-block payload r some few (omega (arith, lt)));
      fillers = map-map-range (λ (b : Block). b.fill) (block p payload) (fill p) 0 p.c (λ r le lt. refl);
    }
