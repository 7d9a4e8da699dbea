use Rattle.std.proofs.Common.{◌+◌, ◌*◌, ◌-◌, pos, get_or, length, ◌∙◌, arith}
use Rattle.std.proofs.lemmas.List.FromFn.{fill_by_all}
use Rattle.gold_scramble.specs.Scrambling.{turned_by, turned_value}
use Rattle.gold_scramble.specs.Sequence.{c as bit_of_sequence}
use Rattle.gold_scramble.proofs.Keystream.{one_word_on, started-moved, word_taken}
use Rattle.gold_scramble.proofs.Words.{none_written}
use Rattle.gold_scramble.proofs.scrambling.turn_softs.Goals as goal

pub loop-i-init : goal.loop-i-init
loop-i-init c = record {
  gold = c.new-gold.ensures ∙ started-moved c.args.init;
  softs = none_written (λ k v. turned_value (bit_of_sequence c.args.init k) v) (pos 0) c.args.softs.now;
}

pub loop-i-preserved : goal.loop-i-preserved
unfolding turned_by
loop-i-preserved c =
    let from = 32 * c.loop-i.i in
    record {
      gold = one_word_on c.args.init c.loop-i.i c.loop-i.gold c.next_word.new.self c.loop-i.invariant.gold c.next_word.ensures.moved;
      softs = word_taken (λ v b. turned_value b v) (pos 0) c.args.init from (c.min-to.result - from)
          (32 * (c.loop-i.i + 1)) c.next_word.result c.loop-i.gold c.args.softs.now c.loop-i.softs c.turn_by_word.new.softs
          c.loop-i.invariant.gold c.next_word.ensures.bits (omega arith) (omega arith) c.turn_by_word.ensures c.loop-i.invariant.softs (omega arith) (λ k h l. omega arith);
    }

pub returns : goal.returns
unfolding turned_by
returns c =
    fill_by_all (λ k. turned_value (bit_of_sequence c.args.init k) (get_or c.args.softs.now k (pos 0))) c.loop-i.softs (length c.args.softs.now) (pos 0) c.loop-i.auto.softs
    (λ k h. c.loop-i.invariant.softs.written k (omega arith) h)
