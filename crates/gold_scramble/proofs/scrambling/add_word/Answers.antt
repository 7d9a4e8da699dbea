use Rattle.std.proofs.Common.{◌-◌, length, ap, sym, ◌∙◌, arith}
use Rattle.std.proofs.lemmas.List.FromFn.{fill_by_all}
use Rattle.lte_bits.specs.declared.bit.Bit.TheVariants.{Zero}
use Rattle.gold_scramble.specs.Places.{at, highest_first, plus}
use Rattle.gold_scramble.specs.Scrambling.{added}
use Rattle.gold_scramble.proofs.PlaceLists.{at-highest_first}
use Rattle.gold_scramble.proofs.Words.{none_written, one_more_written}
use Rattle.gold_scramble.proofs.scrambling.add_word.Goals as goal

pub loop-i-init : goal.loop-i-init
loop-i-init c = none_written (λ k b. plus b (at (highest_first 32 c.args.word) k)) Zero c.args.bits.now

pub loop-i-preserved : goal.loop-i-preserved
loop-i-preserved c =
    one_more_written (λ k b. plus b (at (highest_first 32 c.args.word) k)) Zero c.args.bits.now c.loop-i.i c.loop-i.bits c.plus.result (omega arith) c.loop-i.invariant
    (c.plus.ensures ∙ ap (plus (at c.loop-i.bits c.loop-i.i)) (c.digit.ensures ∙ sym (at-highest_first 32 c.args.word c.loop-i.i (31 - c.loop-i.i) (omega arith))))

pub returns : goal.returns
unfolding added
returns c =
    fill_by_all (λ k. plus (at c.args.bits.now k) (at (highest_first 32 c.args.word) k)) c.loop-i.bits (length c.args.bits.now) Zero c.loop-i.auto.bits
    (λ k h. c.loop-i.invariant.written k (omega arith) h)
