-- The streams of a coded payload, by their places.
use Rattle.std.proofs.Common.{◌≡◌, ℕ, ◌<◌, List, length, get_or, refl, sym, ap, subst, ◌∙◌, arith}
use Rattle.std.proofs.lemmas.List.{length-map, get_or_read}
use Rattle.std.proofs.lemmas.List.FromFn.{get_or-map-range_with_len}
use Rattle.std.proofs.Math.ListN.{get_or-map}
use Rattle.lte_bits.specs.declared.block.Block.{Block}
use Rattle.lte_bits.specs.declared.block.Streams.{Streams}
use Rattle.model_sender.specs.Segmentation.{Plan, plan_of, size, fill}
use Rattle.model_sender.specs.CodeBlocks.{block, blocks}
use Rattle.model_sender.specs.CodedStreams.{streams}
use Rattle.model_sender.specs.CircularBuffer.{AreStreams}
use Rattle.segmentation.proofs.CutBlocks.{blocks-shape}
use Rattle.segmentation.proofs.OfPlans.{is_plan}
use Rattle.rate_match.specs.Coded.{AreStreamsOf}
use Rattle.rate_match.proofs.BlockNumbers.{block-numbers}
use Rattle.rate_match.proofs.BlockStreams.{block-streams, blocks-count}

-- the streams of block r
pub record IsStreamsAt (payload : List ℕ) (r : ℕ) (s : Streams) : Type 0 where
  pub below : r < (plan_of (length payload)).c
  pub is : s ≡ streams (block (plan_of (length payload)) payload r)
  pub are : AreStreams (size (plan_of (length payload)) r) (fill (plan_of (length payload)) r) s

pub streams-count : (payload : List ℕ) (all : List Streams) → AreStreamsOf payload all → length all ≡ (plan_of (length payload)).c
streams-count payload all of =
    let p : Plan = plan_of (length payload) in
    ap length of.coded ∙ length-map (blocks p payload) streams ∙ blocks-count p payload (blocks p payload) refl

pub streams-at : (payload : List ℕ) (all : List Streams) (r : ℕ) (s : Streams) → AreStreamsOf payload all → r < length all → s ≡ get_or all r s → IsStreamsAt payload r s
streams-at payload all r s of within at =
    let p : Plan = plan_of (length payload) in
    let bs : List Block = blocks p payload in
    let below : r < p.c = omega (arith, within, streams-count payload all of) in
    let b : Block = block p payload r in
    let stands : b ≡ get_or bs r b = sym (get_or-map-range_with_len (block p payload) 0 p.c r r b below (omega arith)) in
    let same : s ≡ streams b = get_or_read all r s within at (streams b) ∙ ap (λ xs. get_or xs r (streams b)) of.coded ∙ get_or-map streams bs r b ∙ ap streams (sym stands) in
    let one = block-streams p bs r b (block-numbers p r (is_plan (length payload) of.some of.few) below) (blocks-shape payload of.some of.few) below stands in
    record {
      below = below;
      is = same;
      are = subst (λ (x : Streams). AreStreams (size p r) (fill p r) x) (sym same) one;
    }
