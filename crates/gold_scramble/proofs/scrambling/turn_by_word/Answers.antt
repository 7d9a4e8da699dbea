use Rattle.std.proofs.Common.{◌-◌, pos, get_or, length, ap, sym, ◌∙◌, arith}
use Rattle.std.proofs.lemmas.List.{get_or_read}
use Rattle.std.proofs.lemmas.List.FromFn.{fill_by_all}
use Rattle.gold_scramble.specs.Places.{at, highest_first}
use Rattle.gold_scramble.specs.Scrambling.{turned_by, turned_value}
use Rattle.gold_scramble.proofs.PlaceLists.{at-highest_first}
use Rattle.gold_scramble.proofs.Words.{none_written, one_more_written}
use Rattle.gold_scramble.proofs.scrambling.turn_by_word.Goals as goal

pub loop-i-init : goal.loop-i-init
loop-i-init c = none_written (λ k v. turned_value (at (highest_first 32 c.args.word) k) v) (pos 0) c.args.softs.now

pub loop-i-preserved : goal.loop-i-preserved
loop-i-preserved c =
    one_more_written (λ k v. turned_value (at (highest_first 32 c.args.word) k) v) (pos 0) c.args.softs.now c.loop-i.i c.loop-i.softs c.turn.result (omega arith) c.loop-i.invariant
    (c.turn.ensures ∙ ap (turned_value c.digit.result) (get_or_read c.loop-i.softs c.loop-i.i c.index-softs-i.result (omega arith) c.index-softs-i.is (pos 0))
    ∙ ap (λ b. turned_value b (get_or c.loop-i.softs c.loop-i.i (pos 0))) (c.digit.ensures ∙ sym (at-highest_first 32 c.args.word c.loop-i.i (31 - c.loop-i.i) (omega arith))))

pub returns : goal.returns
unfolding turned_by
returns c =
    fill_by_all (λ k. turned_value (at (highest_first 32 c.args.word) k) (get_or c.args.softs.now k (pos 0))) c.loop-i.softs (length c.args.softs.now) (pos 0) c.loop-i.auto.softs
    (λ k h. c.loop-i.invariant.written k (omega arith) h)
