use Rattle.std.proofs.Common.{◌≡◌, ℕ, ◌<◌, List, subst, sym, arith}
use Rattle.lte_bits.specs.declared.block.Block.{Block}
use Rattle.lte_bits.specs.declared.block.Streams.{Streams}
use Rattle.segmentation.specs.Plans.{IsPlan}
use Rattle.segmentation.specs.Shape.{AreBlocksOf}
use Rattle.model_sender.specs.CircularBuffer.{AreStreams}
use Rattle.model_sender.specs.Segmentation.{Plan, size, fill}
use Rattle.rate_match.proofs.BlockNumbers.{block-numbers}
use Rattle.rate_match.proofs.BlockStreams.{block-streams, shape-count}
use Rattle.test_sender.proofs.codewords.selections_are_the_codeword_of_an_independent_encoder.Goals as goal

pub select-requires-clause-streams : goal.select-requires-clause-streams
select-requires-clause-streams g c =
    let p : Plan = c.expect-plan.result in
    let r : ℕ = c.loop-r.r-counter in
    let bs : List Block = c.as_slice-block-items.result.now in
    let lent : bs ≡ c.in_ok-blocks.blocks = c.as_slice-block-items.ensures in
    let shape : AreBlocksOf p bs = subst (λ (list : List Block). AreBlocksOf p list) (sym lent) c.in_ok-blocks.ensures.shape in
    let below : r < p.c = omega (arith, c.loop-r-test.true, shape-count p bs shape) in
    subst (λ (s : Streams). AreStreams (size p r) (fill p r) s) (sym c.in_ok-streams.ensures)
    (block-streams p bs r c.block-item.result (block-numbers p r (subst IsPlan c.plan-2.view_is c.plan-2.invariant) below) shape below c.block-item.is)
