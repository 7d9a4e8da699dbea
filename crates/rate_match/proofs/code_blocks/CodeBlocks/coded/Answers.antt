use Rattle.std.proofs.Common.{ℕ, ◌<◌, List, Contains, length, ap, subst, sym, ◌∙◌}
use Rattle.lte_bits.specs.declared.block.Block.{Block}
use Rattle.model_sender.specs.Interleaver.{sizes}
use Rattle.model_sender.specs.Segmentation.{plan_of}
use Rattle.model_sender.specs.CodeBlocks.{block}
use Rattle.model_sender.specs.CodedStreams.{streams}
use Rattle.rate_match.proofs.CutPayload.{block-inside}
use Rattle.rate_match.proofs.code_blocks.CodeBlocks.coded.Goals as goal

pub code_block-requires : goal.code_block-requires
code_block-requires c = subst (λ (xs : List ℕ). c.args.r < (plan_of (length xs)).c) (sym c.self.view_is) c.requires

pub for_size-requires : goal.for_size-requires
for_size-requires c =
    subst (λ (k : ℕ). Contains sizes k) (sym (ap length c.as_slice.ensures ∙ ap (λ (b : Block). length b.bits) c.in_ok-block.ensures))
    (block-inside c.self.inside.transport c.args.r c.self.invariant.some c.self.invariant.few
    (subst (λ (xs : List ℕ). c.args.r < (plan_of (length xs)).c) (sym c.self.view_is) c.requires))

pub returns-clause-streams : goal.returns-clause-streams
returns-clause-streams c =
    c.in_ok-streams.ensures ∙ ap streams c.in_ok-block.ensures ∙ ap (λ (xs : List ℕ). streams (block (plan_of (length xs)) xs c.args.r)) c.self.view_is
