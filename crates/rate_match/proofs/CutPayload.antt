-- One code block of a payload.
use Rattle.std.proofs.Common.{◌≡◌, ℕ, ◌+◌, ◌<◌, ◌≤◌, List, length, Contains, sym, subst, arith}
use Rattle.std.proofs.lemmas.List.FromFn.{get_or-map-range_with_len}
use Rattle.lte_bits.specs.declared.block.Block.{Block}
use Rattle.model_sender.specs.Interleaver.{sizes}
use Rattle.model_sender.specs.Segmentation.{Plan, plan_of, size, fill}
use Rattle.model_sender.specs.CodeBlocks.{block, blocks}
use Rattle.model_sender.specs.CodedStreams.{streams}
use Rattle.model_sender.specs.CircularBuffer.{AreStreams}
use Rattle.segmentation.proofs.CutBlocks.{blocks-shape, length-block}
use Rattle.segmentation.proofs.OfPlans.{is_plan}
use Rattle.rate_match.proofs.BlockNumbers.{block-numbers}
use Rattle.rate_match.proofs.BlockStreams.{block-streams}

-- it can be coded
pub block-inside : (payload : List ℕ) (r : ℕ) → 1 ≤ length payload → length payload ≤ 18722 → r < (plan_of (length payload)).c
    → Contains sizes (length (block (plan_of (length payload)) payload r).bits)
block-inside payload r some few below =
    subst (λ (k : ℕ). Contains sizes k) (sym (length-block payload r some few below)) (block-numbers (plan_of (length payload)) r (is_plan (length payload) some few) below).inside

-- and its streams
pub coded_streams : (payload : List ℕ) (r : ℕ) → 1 ≤ length payload → length payload ≤ 18722 → r < (plan_of (length payload)).c
    → AreStreams (size (plan_of (length payload)) r) (fill (plan_of (length payload)) r) (streams (block (plan_of (length payload)) payload r))
coded_streams payload r some few below =
    let p : Plan = plan_of (length payload) in
    let bs : List Block = blocks p payload in
    let b : Block = block p payload r in
    let shape = blocks-shape payload some few in
    let stands = sym (get_or-map-range_with_len (block p payload) 0 p.c r r b below (let e : 0 + r ≡ r = omega arith in e)) in
    block-streams p bs r b (block-numbers p r (is_plan (length payload) some few) below) shape below stands
