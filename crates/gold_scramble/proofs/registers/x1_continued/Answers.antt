use Rattle.gold_scramble.specs.Sequence.{x1_recurrence}
use Rattle.gold_scramble.proofs.Widening.{widened-lt, widened_places, x1_next, x1_fresh}
use Rattle.gold_scramble.proofs.registers.x1_continued.Goals as goal

pub returns-clause-places : goal.returns-clause-places
returns-clause-places c =
    let x = c.from-x.result in
    let few = c.requires.count in
    widened_places x1_recurrence c.args.register x c.args.count (x1_next x c.args.count) c.from-x.ensures c.requires.register few (x1_fresh x c.args.count few)

pub returns-clause-small : goal.returns-clause-small
returns-clause-small c =
    let x = c.from-x.result in
    widened-lt c.args.register x c.args.count (x1_next x c.args.count) c.from-x.ensures c.requires.register c.requires.count
