use Rattle.std.proofs.Common.{◌≤◌, ◌^◌, ap, subst, ◌∙◌, arith}
use Rattle.std.proofs.Math.Nat.{pow-le-pow_right}
use Rattle.lte_bits.specs.Bits.{number}
use Rattle.gold_scramble.specs.Places.{highest_first, places}
use Rattle.gold_scramble.specs.Registers.{AreWhole, coming, moved}
use Rattle.gold_scramble.specs.Sequence.{place, x1_recurrence, x2_recurrence}
use Rattle.gold_scramble.proofs.PlaceLists.{length-highest_first}
use Rattle.gold_scramble.proofs.Stepping.{given_bits, given_bits-lt, left_places, same_registers}
use Rattle.gold_scramble.proofs.gold.Gold.next_bits.Goals as goal

pub overflow_cast-result : goal.overflow_cast-result
overflow_cast-result c =
    let h = given_bits-lt c.x1_continued-x1.result c.x2_continued-x2.result c.args.count c.x1_continued-x1.ensures.small c.x2_continued-x2.ensures.small in
    let few : 2 ^ c.args.count ≤ 2 ^ 28 = pow-le-pow_right (omega arith) c.requires in
    omega arith

pub returns-clause-bits : goal.returns-clause-bits
returns-clause-bits c =
    given_bits (place x1_recurrence (highest_first 31 c.self.inside.x1)) (place x2_recurrence
    (highest_first 31 c.self.inside.x2)) c.x1_continued-x1.result c.x2_continued-x2.result c.args.count
    c.x1_continued-x1.ensures.places c.x2_continued-x2.ensures.places c.x1_continued-x1.ensures.small c.x2_continued-x2.ensures.small
    ∙ ap (λ g. number (places (coming g) 0 c.args.count)) c.self.view_is

pub returns-clause-moved : goal.returns-clause-moved
returns-clause-moved c =
    let a = left_places (place x1_recurrence (highest_first 31 c.self.inside.x1)) c.x1_continued-x1.result c.args.count c.x1_continued-x1.ensures.places in
    let b = left_places (place x2_recurrence (highest_first 31 c.self.inside.x2)) c.x2_continued-x2.result c.args.count c.x2_continued-x2.ensures.places in
    same_registers _ _ _ _ a b ∙ ap (λ g. moved g c.args.count) c.self.view_is

pub returns-clause-small : goal.returns-clause-small
returns-clause-small c =
    given_bits-lt c.x1_continued-x1.result c.x2_continued-x2.result c.args.count c.x1_continued-x1.ensures.small c.x2_continued-x2.ensures.small

pub returns-clause-whole : goal.returns-clause-whole
returns-clause-whole c = subst AreWhole c.self.view_is (record { first = length-highest_first 31 c.self.inside.x1; second = length-highest_first 31 c.self.inside.x2 })
