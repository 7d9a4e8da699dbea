use Rattle.std.proofs.Common.{◌≡◌, ℕ, ◌/◌, ◌%◌, sym, ap, ◌∙◌, arith}
use Rattle.std.proofs.lemmas.List.FromFn.{fill_by_all}
use Rattle.cell_shares.specs.Orders.{place_in}
use Rattle.lane_banks.specs.Permutations.{place_of, crossbar_of}
use Rattle.lane_banks.proofs.PermutationLaws.{one-row, each-once, made-by_crossbar}
use Rattle.lane_banks.proofs.reference.steps.crossbar.Goals as goal

pub returns-clause-banks : goal.returns-clause-banks
returns-clause-banks g c =
    fill_by_all (λ t. place_of (place_in c.args.order.now) c.args.width t c.args.j / c.args.width) c.loop-t.banks g.row.N 0 c.loop-t.invariant.long
    (λ t lt. c.loop-t.invariant.done t (omega (arith, c.loop-t-test.false, lt)))

pub returns-clause-once : goal.returns-clause-once
returns-clause-once g c =
    let banks : c.loop-t.banks ≡ crossbar_of g.row.N c.args.order.now c.args.width c.args.j =
    fill_by_all (λ t. place_of (place_in c.args.order.now) c.args.width t c.args.j / c.args.width) c.loop-t.banks g.row.N 0 c.loop-t.invariant.long
    (λ t lt. c.loop-t.invariant.done t (omega (arith, c.loop-t-test.false, lt))) in
    each-once c.args.order.now g.row.N c.args.width c.args.j c.requires.order c.requires.step c.loop-t.banks banks

pub returns-clause-one_row : goal.returns-clause-one_row
returns-clause-one_row g c = λ t lt.
    one-row c.args.order.now g.row.N c.args.width t c.args.j c.requires.order lt c.requires.step
    ∙ ap (λ (k : ℕ). k % c.args.width) (sym c.place-2.ensures.place)

pub returns-clause-place : goal.returns-clause-place
returns-clause-place g c = λ t lt.
    let banks : c.loop-t.banks ≡ crossbar_of g.row.N c.args.order.now c.args.width c.args.j =
    fill_by_all (λ t. place_of (place_in c.args.order.now) c.args.width t c.args.j / c.args.width) c.loop-t.banks g.row.N 0 c.loop-t.invariant.long
    (λ t lt. c.loop-t.invariant.done t (omega (arith, c.loop-t-test.false, lt))) in
    made-by_crossbar c.args.order.now g.row.N c.args.width c.args.j c.requires.order c.requires.step c.loop-t.banks (c.place-2.result % c.args.width) banks
    (ap (λ (k : ℕ). k % c.args.width) c.place-2.ensures.place) t lt
