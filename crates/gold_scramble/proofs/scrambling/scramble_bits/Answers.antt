use Rattle.std.proofs.Common.{◌+◌, ◌*◌, ◌-◌, length, ◌∙◌, arith}
use Rattle.std.proofs.lemmas.List.FromFn.{fill_by_all}
use Rattle.lte_bits.specs.declared.bit.Bit.TheVariants.{Zero}
use Rattle.gold_scramble.specs.Places.{at, plus}
use Rattle.gold_scramble.specs.Scrambling.{added}
use Rattle.gold_scramble.specs.Sequence.{c as bit_of_sequence}
use Rattle.gold_scramble.proofs.Keystream.{one_word_on, started-moved, word_taken}
use Rattle.gold_scramble.proofs.Words.{none_written}
use Rattle.gold_scramble.proofs.scrambling.scramble_bits.Goals as goal

pub loop-i-init : goal.loop-i-init
loop-i-init c = record {
  gold = c.new-gold.ensures ∙ started-moved c.args.init;
  bits = none_written (λ k b. plus b (bit_of_sequence c.args.init k)) Zero c.args.bits.now;
}

pub loop-i-preserved : goal.loop-i-preserved
unfolding added
loop-i-preserved c =
    let from = 32 * c.loop-i.i in
    record {
      gold = one_word_on c.args.init c.loop-i.i c.loop-i.gold c.next_word.new.self c.loop-i.invariant.gold c.next_word.ensures.moved;
      bits = word_taken plus Zero c.args.init from (c.min-to.result - from) (32 * (c.loop-i.i + 1)) c.next_word.result c.loop-i.gold c.args.bits.now c.loop-i.bits c.add_word.new.bits
          c.loop-i.invariant.gold c.next_word.ensures.bits (omega arith) (omega arith) c.add_word.ensures c.loop-i.invariant.bits (omega arith) (λ k h l. omega arith);
    }

pub returns : goal.returns
unfolding added
returns c =
    fill_by_all (λ k. plus (at c.args.bits.now k) (bit_of_sequence c.args.init k)) c.loop-i.bits (length c.args.bits.now) Zero c.loop-i.auto.bits
    (λ k h. c.loop-i.invariant.bits.written k (omega arith) h)
