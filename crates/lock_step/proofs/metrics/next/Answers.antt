use Rattle.std.proofs.Common.{arith, rules}
use Rattle.lock_step.proofs.Vectors.{same-lanes, difference-lanes, lanes_stored, any_passed, difference-fits}
use Rattle.lock_step.proofs.metrics.next.Goals as goal

pub difference-requires : goal.difference-requires
difference-requires g c =
    let n = g.row.N in
    let b = same-lanes n 12782 _ _ c.loaded.ensures c.requires.base in
    (search rules, (any_passed n 12782 _ _ (omega arith) c.better.ensures, (any_passed n 12782 _ _ (omega arith) b, difference-fits n 12782 12782 _ _ _ _ (omega arith) c.better.ensures b)))

pub store-requires : goal.store-requires
store-requires g c =
    let n = g.row.N in
    let b = same-lanes n 12782 _ _ c.loaded.ensures c.requires.base in
    (search rules, any_passed n 25564 _ _ (omega arith) (difference-lanes n 12782 12782 _ _ _ _ _ (omega arith) c.better.ensures b c.difference.ensures.vector.long c.difference.ensures.lanes))

pub returns-clause-lanes : goal.returns-clause-lanes
returns-clause-lanes g c =
    let n = g.row.N in
    let b = same-lanes n 12782 _ _ c.loaded.ensures c.requires.base in
    (lanes_stored n 25564 _ _ _ (omega arith) c.store.ensures
    (difference-lanes n 12782 12782 _ _ _ _ _ (omega arith) c.better.ensures b c.difference.ensures.vector.long c.difference.ensures.lanes)).lanes
