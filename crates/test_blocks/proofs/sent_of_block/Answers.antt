use Rattle.std.proofs.Common.{◌≡◌, ◌<◌, ℕ, length, subst, sym, ap, ◌∙◌, arith}
use Rattle.lte_bits.specs.declared.block.Block.{Block}
use Rattle.lte_bits.specs.declared.block.Streams.{Streams}
use Rattle.model_sender.specs.CircularBuffer.{AreStreams}
use Rattle.model_sender.specs.CodedStreams.{streams}
use Rattle.model_sender.specs.Segmentation.{Plan, size, fill}
use Rattle.model_sender.proofs.StreamNulls.{streams-nulls}
use Rattle.rate_match.proofs.BlockNumbers.{block-numbers}
use Rattle.test_blocks.proofs.sent_of_block.Goals as goal

placed : (b : Block) (k f : ℕ) → length b.bits ≡ k → b.fill ≡ f → f < k → AreStreams k f (streams b)
placed b k f size fill below =
    subst (λ (n : ℕ). AreStreams k n (streams b)) fill
    (subst (λ (n : ℕ). AreStreams n b.fill (streams b)) size (streams-nulls b (omega (arith, size, fill, below))))

pub select-requires-clause-streams : goal.select-requires-clause-streams
select-requires-clause-streams c =
    let plan : Plan = c.in_ok-plan.plan in
    let r : ℕ = c.args.r in
    let below : r < plan.c = omega (arith, c.if-r-plan.false, ap (λ (p : Plan). p.c) c.plan-2.view_is) in
    let block = block-numbers plan r c.size.ensures.lawful below in
    let b : Block = record { fill = c.fill.result; bits = c.from_vec.result } in
    let long : length c.from_vec.result ≡ c.size.result = omega (arith, c.if-long-size.false, ap length c.as_slice-long.ensures) in
    subst (λ (s : Streams). AreStreams (size plan r) (fill plan r) s) (sym c.in_ok-streams.ensures)
    (placed b (size plan r) (fill plan r) (long ∙ c.size.ensures.value) c.fill.ensures block.fills)
