use Rattle.std.proofs.Common.{◌≢◌, ◌<◌, ℕ, Some, length, get_or-set_other, get_or-set_same, below_more, sym, ap, subst, ◌∙◌, arith}
use Rattle.std.proofs.lemmas.List.FromFn.{fill_by_all}
use Rattle.lte_bits.specs.declared.bit.Bit.{Bit}
use Rattle.lte_bits.specs.declared.bit.Bit.TheVariants.{Zero}
use Rattle.lte_bits.specs.declared.block.Streams.{Streams}
use Rattle.model_sender.specs.declared.spot.Spot.{Spot}
use Rattle.model_sender.specs.CircularBuffer.{cell_at}
use Rattle.model_sender.specs.Selection.{bit_of_cell}
use Rattle.rate_match.specs.Runs.{bit_down}
use Rattle.rate_match.specs.Streams.{HasBit}
use Rattle.rate_match.proofs.selecting.write_run.Goals as goal

-- the bit at a place of the streams
bit_in : Streams → Spot → Bit
bit_in s b = bit_of_cell (cell_at s (Some b))

pub bit_at-requires : goal.bit_at-requires
bit_at-requires c =
    let i : ℕ = c.loop-i.i in
    subst (λ (b : Spot). HasBit c.args.streams.now b) (sym c.spot.ensures) (c.requires.bits i (omega (arith, c.requires.long, c.loop-i.auto.out)))

pub loop-i-preserved : goal.loop-i-preserved
unfolding bit_in
loop-i-preserved c =
    let i : ℕ = c.loop-i.i in
    let lt : i < length c.loop-i.out = omega arith in
    below_more _ _
    (λ k h. let ne : k ≢ i = omega arith in rw get_or-set_other (c.loop-i.invariant k h))
    (rw get_or-set_same (c.bit_at.ensures ∙ ap (bit_in c.args.streams.now) c.spot.ensures))

pub returns : goal.returns
unfolding bit_in
returns c =
    fill_by_all (λ i. bit_in c.args.streams.now (bit_down c.args.run.first i)) c.loop-i.out c.args.run.count Zero (c.loop-i.auto.out ∙ c.requires.long)
    (λ k h. c.loop-i.invariant k (omega (arith, c.loop-i-test.false, c.loop-i.auto.out, c.requires.long, h)))
