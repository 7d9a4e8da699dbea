use Rattle.std.proofs.Common.{◌≡◌, ℕ, ◌+◌, ◌*◌, List, ℤ, pos, length, map, replicate, subst, sym, ap, ◌∙◌, arith}
use Rattle.std.specs.List.{range_with_len}
use Rattle.std.proofs.lemmas.List.{get_or-replicate, length-replicate}
use Rattle.std.proofs.lemmas.List.FromFn.{length-map-range_with_len}
use Rattle.lte_bits.proofs.Pushes.{pushed_next}
use Rattle.model_sender.specs.Segmentation.{Plan, size}
use Rattle.model_sender.specs.CircularBuffer.{FitsIn}
use Rattle.segmentation.specs.Shown.{shown}
use Rattle.rate_match.specs.Matching.{limit_of}
use Rattle.rate_match.proofs.BlockNumbers.{block-numbers}
use Rattle.soft_buffers.specs.Buffers.{cell_index, cell_of}
use Rattle.soft_buffers.proofs.Adding.{index-below}
use Rattle.soft_buffers.proofs.Fresh.{fresh, fresh-block}
use Rattle.soft_buffers.proofs.buffers.HarqBuffers.new.Goals as goal

pub fresh_cells-requires : goal.fresh_cells-requires
fresh_cells-requires c =
    let count = ap (λ (p : Plan). p.c) c.plan.view_is in
    let block = block-numbers c.args.plan.now c.loop-r.r c.size.ensures.lawful (omega (arith, c.loop-r-test.true, count)) in
    omega (arith, block.most, c.size.ensures.value)

pub loop-r-preserved : goal.loop-r-preserved
loop-r-preserved c =
    pushed_next (fresh c.args.plan.now) c.loop-r.blocks.items c.push.new.self.items c.loop-r.r c.in_ok-fresh_cells.field-0
    c.loop-r.invariant c.in_ok-push.ensures.items
    (c.in_ok-fresh_cells.ensures ∙ ap (λ (n : ℕ). replicate (3 * (n + 4)) (pos 0)) c.size.ensures.value)

pub invariant_of-result-2 : goal.invariant_of-result-2
invariant_of-result-2 c =
    let p : Plan = shown c.plan.inside in
    let are = subst (λ (q : Plan). c.loop-r.blocks.items ≡ map (fresh q) (range_with_len 0 c.loop-r.r)) (sym c.plan.view_is) c.loop-r.invariant in
    let all : c.loop-r.r ≡ p.c = omega (arith, c.loop-r-test.false, c.loop-r.auto.r-end) in
    record {
      fits = subst (λ (q : Plan). FitsIn (limit_of c.args.buffer) q.c q.k_plus) (sym c.plan.view_is) c.requires;
      count = ap length are ∙ length-map-range_with_len (fresh p) 0 c.loop-r.r ∙ all;
      long = λ q below.
          ap length (fresh-block p c.loop-r.blocks.items c.loop-r.r q are (omega (arith, below, all)))
          ∙ length-replicate (3 * (size p q + 4)) (pos 0);
    }

pub returns-clause-cells : goal.returns-clause-cells
returns-clause-cells c q below s inside =
    let p : Plan = shown c.plan.inside in
    let are = subst (λ (q : Plan). c.loop-r.blocks.items ≡ map (fresh q) (range_with_len 0 c.loop-r.r)) (sym c.plan.view_is) c.loop-r.invariant in
    let k : ℕ = size p q in
    let all : c.loop-r.r ≡ p.c = omega (arith, c.loop-r-test.false, c.loop-r.auto.r-end) in
    ap (λ (cells : List ℤ). cell_of k cells s) (fresh-block p c.loop-r.blocks.items c.loop-r.r q are (omega (arith, below, all)))
    ∙ get_or-replicate (3 * (k + 4)) (cell_index k s) (pos 0) (pos 0) (index-below k s inside)
