use Rattle.std.proofs.Common.{ℕ, ◌*◌, ◌≤◌, Contains, ap, subst, sym, arith}
use Rattle.model_sender.specs.Interleaver.{sizes}
use Rattle.model_sender.specs.Segmentation.{Plan, size}
use Rattle.model_sender.specs.CircularBuffer.{rows_of, buffer_size}
use Rattle.model_sender.proofs.SelectionLaws.{rows-bounds}
use Rattle.rate_match.proofs.BlockNumbers.{block-numbers}
use Rattle.rate_match.proofs.rings.ring_of.Goals as goal

pub rows_of-requires : goal.rows_of-requires
rows_of-requires c =
    let plan : Plan = c.args.plan.now in
    let block = block-numbers plan c.args.r c.size-k.ensures.lawful c.requires.block in
    omega (arith, block.most, c.size-k.ensures.value)

pub invariant_of-result : goal.invariant_of-result
invariant_of-result c =
    let plan : Plan = c.args.plan.now in
    let k : ℕ = size plan c.args.r in
    let block = block-numbers plan c.args.r c.size-k.ensures.lawful c.requires.block in
    let kept : 32 * rows_of k ≤ c.buffer_len-places.result = c.buffer_len-places.ensures.kept c.requires.fits in
    record {
      few = omega (arith, block.most, c.size-k.ensures.value);
      fills = omega (arith, block.fills, c.fill.ensures, c.size-k.ensures.value);
      height = c.rows_of.ensures.value;
      some = omega (arith, kept, (rows-bounds k).0);
      within = omega (arith, c.buffer_len-places.ensures.within, ap buffer_size c.size-k.ensures.value);
      keeps = omega (arith, kept, ap rows_of c.size-k.ensures.value);
    }

pub returns-clause-sized : goal.returns-clause-sized
returns-clause-sized c =
    let block = block-numbers c.args.plan.now c.args.r c.size-k.ensures.lawful c.requires.block in
    subst (λ (k : ℕ). Contains sizes k) (sym c.size-k.ensures.value) block.inside
