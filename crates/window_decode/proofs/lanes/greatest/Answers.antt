use Rattle.std.proofs.Common.{◌≡◌, ◌≤◌, ℤ, List, sym, ap, ◌∙◌, to_z, of_z, w16, arith}
use Rattle.std.specs.Int.{int_max}
use Rattle.lte_bits.specs.declared.bit.Bit.TheVariants.{Zero, One}
use Rattle.model_sender.specs.Bits.{plus}
use Rattle.model_sender.specs.ConstituentCoder.{State}
use Rattle.model_receiver.specs.Borders.{state, number_for, border_of}
use Rattle.model_receiver.specs.Paths.{greatest}
use Rattle.window_decode.proofs.LaneSteps.{stored}
use Rattle.window_decode.proofs.LaneNumbers.{passed, AreNumbers, lanes-own, lanes_passed, moved-numbers, larger-numbers, number_passed, of_two, of_four, of_eight, greatest-of_eight}
use Rattle.window_decode.proofs.lanes.greatest.Goals as goal

least : 32767 ≤ 32767
least = omega arith

turned : (f : State → ℤ) (to : State → State) (a t : List ℤ) → AreNumbers 32767 f a → t ≡ border_of (λ s. number_for (passed a) (to s)) → AreNumbers 32767 (λ s. f (to s)) t
turned f to a t h e = moved-numbers 32767 f to a t least h e

-- the greater of each number and a turned one
halves : (f : State → ℤ) (to : State → State) (a t r : List ℤ) → AreNumbers 32767 f a → t ≡ border_of (λ s. number_for (passed a) (to s))
    → r ≡ border_of (λ s. int_max (number_for (passed a) s) (number_for (passed t) s)) → AreNumbers 32767 (λ s. int_max (f s) (f (to s))) r
halves f to a t r h e k = larger-numbers 32767 f (λ s. f (to s)) a t r least h (turned f to a t h e) k

abbrev newest : State → State
newest s = state (plus One s.a1) s.a2 s.a3

abbrev middle : State → State
middle s = state s.a1 (plus One s.a2) s.a3

abbrev oldest : State → State
oldest s = state s.a1 s.a2 (plus One s.a3)

pub newest_turned-requires : goal.newest_turned-requires
newest_turned-requires c = lanes_passed 32767 _ _ least (lanes-own c.args.a c.requires)

pub larger-of_two-requires-clause-first : goal.larger-of_two-requires-clause-first
larger-of_two-requires-clause-first c = lanes_passed 32767 _ _ least (lanes-own c.args.a c.requires)

pub larger-of_two-requires-clause-second : goal.larger-of_two-requires-clause-second
larger-of_two-requires-clause-second c =
    lanes_passed 32767 _ _ least (turned (number_for c.args.a) newest c.args.a c.newest_turned.result (lanes-own c.args.a c.requires) c.newest_turned.ensures)

pub middle_turned-requires : goal.middle_turned-requires
middle_turned-requires c =
    lanes_passed 32767 _ _ least (halves (number_for c.args.a) newest c.args.a c.newest_turned.result c.larger-of_two.result
    (lanes-own c.args.a c.requires) c.newest_turned.ensures c.larger-of_two.ensures)

pub larger-of_four-requires-clause-first : goal.larger-of_four-requires-clause-first
larger-of_four-requires-clause-first c =
    lanes_passed 32767 _ _ least (halves (number_for c.args.a) newest c.args.a c.newest_turned.result c.larger-of_two.result
    (lanes-own c.args.a c.requires) c.newest_turned.ensures c.larger-of_two.ensures)

pub larger-of_four-requires-clause-second : goal.larger-of_four-requires-clause-second
larger-of_four-requires-clause-second c =
    let two = halves (number_for c.args.a) newest c.args.a c.newest_turned.result c.larger-of_two.result (lanes-own c.args.a c.requires) c.newest_turned.ensures c.larger-of_two.ensures in
    lanes_passed 32767 _ _ least (turned _ middle c.larger-of_two.result c.middle_turned.result two c.middle_turned.ensures)

pub oldest_turned-requires : goal.oldest_turned-requires
oldest_turned-requires c =
    let two = halves (number_for c.args.a) newest c.args.a c.newest_turned.result c.larger-of_two.result (lanes-own c.args.a c.requires) c.newest_turned.ensures c.larger-of_two.ensures in
    lanes_passed 32767 _ _ least (halves _ middle c.larger-of_two.result c.middle_turned.result c.larger-of_four.result two c.middle_turned.ensures c.larger-of_four.ensures)

pub larger-of_eight-requires-clause-first : goal.larger-of_eight-requires-clause-first
larger-of_eight-requires-clause-first c =
    let two = halves (number_for c.args.a) newest c.args.a c.newest_turned.result c.larger-of_two.result (lanes-own c.args.a c.requires) c.newest_turned.ensures c.larger-of_two.ensures in
    lanes_passed 32767 _ _ least (halves _ middle c.larger-of_two.result c.middle_turned.result c.larger-of_four.result two c.middle_turned.ensures c.larger-of_four.ensures)

pub larger-of_eight-requires-clause-second : goal.larger-of_eight-requires-clause-second
larger-of_eight-requires-clause-second c =
    let two = halves (number_for c.args.a) newest c.args.a c.newest_turned.result c.larger-of_two.result (lanes-own c.args.a c.requires) c.newest_turned.ensures c.larger-of_two.ensures in
    let four = halves _ middle c.larger-of_two.result c.middle_turned.result c.larger-of_four.result two c.middle_turned.ensures c.larger-of_four.ensures in
    lanes_passed 32767 _ _ least (turned _ oldest c.larger-of_four.result c.oldest_turned.result four c.oldest_turned.ensures)

pub returns : goal.returns
returns c =
    let a = c.args.a in let m : State → ℤ = number_for a in
    let own : AreNumbers 32767 m a = lanes-own a c.requires in
    let two : AreNumbers 32767 (of_two m) c.larger-of_two.result = halves m newest a c.newest_turned.result c.larger-of_two.result own c.newest_turned.ensures c.larger-of_two.ensures in
    let four : AreNumbers 32767 (of_four m) c.larger-of_four.result =
    halves (of_two m) middle c.larger-of_two.result c.middle_turned.result c.larger-of_four.result two c.middle_turned.ensures c.larger-of_four.ensures in
    let eight : AreNumbers 32767 (of_eight m) c.larger-of_eight.result =
    halves (of_four m) oldest c.larger-of_four.result c.oldest_turned.result c.larger-of_eight.result four c.oldest_turned.ensures c.larger-of_eight.ensures in
    ap (λ z. to_z w16 (of_z w16 z)) (number_passed 32767 (of_eight m) c.larger-of_eight.result least eight (state Zero Zero Zero))
    ∙ (stored (of_eight m (state Zero Zero Zero)) (eight.bounded (state Zero Zero Zero))
    ∙ (greatest-of_eight m ∙ ap greatest (sym own.is)))
