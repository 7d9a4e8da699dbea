use Rattle.std.proofs.Common.{arith, rules}
use Rattle.lock_step.proofs.Vectors.{difference-lanes, lanes_passed, any_passed, difference-fits}
use Rattle.lock_step.proofs.joined.extrinsic.Goals as goal

pub difference-requires : goal.difference-requires
difference-requires g c =
    let n = g.row.N in (
      search rules,
      (
        any_passed n 12909 _ _ (omega arith) c.best_with-zero.ensures,
        (any_passed n 12909 _ _ (omega arith) c.best_with-one.ensures, difference-fits n 12909 12909 _ _ _ _ (omega arith) c.best_with-zero.ensures c.best_with-one.ensures),
      ),
    )

pub returns : goal.returns
returns g c =
    let n = g.row.N in
    lanes_passed n 25818 _ _ (omega arith)
    (difference-lanes n 12909 12909 _ _ _ _ _ (omega arith) c.best_with-zero.ensures c.best_with-one.ensures c.difference.ensures.vector.long c.difference.ensures.lanes)
