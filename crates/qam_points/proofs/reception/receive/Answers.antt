use Rattle.std.proofs.Common.{pos, length, sym, subst, arith}
use Rattle.std.proofs.lemmas.List.FromFn.{fill_by_all}
use Rattle.qam_points.specs.Constellation.{IsSmall}
use Rattle.qam_points.specs.Reception.{received_point}
use Rattle.qam_points.specs.declared.point.Point.{Point}
use Rattle.qam_points.proofs.reception.receive.Goals as goal

pub received-requires-clause-small : goal.received-requires-clause-small
received-requires-clause-small c =
    let none : Point = record { i = pos 0; q = pos 0 } in
    let s = c.loop-s.s in
    subst IsSmall (sym (c.loop-s.invariant.rest s (omega arith))) (c.requires.small s none c.loop-s-test.true)

pub returns : goal.returns
returns c =
    fill_by_all (received_point c.args.amp c.args.terms.now c.args.points.now) c.loop-s.points (length c.args.points.now) (record { i = pos 0; q = pos 0 }) c.loop-s.auto.points
    (λ k h. c.loop-s.invariant.written k (omega arith))
