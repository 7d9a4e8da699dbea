use Rattle.std.proofs.Common.{arith, rules}
use Rattle.model_receiver.specs.Windows.{scaled}
use Rattle.lock_step.proofs.Vectors.{small-vector, same-lanes, sum-lanes, lanes_of, lanes_stored, more-lanes, any_passed, sum-fits}
use Rattle.lock_step.proofs.joined.write_extrinsic.Goals as goal

pub scaled-requires : goal.scaled-requires
scaled-requires g c = (search rules, any_passed g.row.N 25818 _ _ (omega arith) c.extrinsic-e.ensures)

pub store-requires : goal.store-requires
store-requires g c = (search rules, any_passed g.row.N 511 _ _ (omega arith) c.scaled.ensures)

pub sum-requires : goal.sum-requires
sum-requires g c =
    let n = g.row.N in
    let x = same-lanes n 638 _ _ c.loaded.ensures (small-vector n 638 _ c.told-x c.requires.input) in
    (search rules, (any_passed n 25818 _ _ (omega arith) c.extrinsic-e.ensures, (any_passed n 638 _ _ (omega arith) x, sum-fits n 25818 638 _ _ _ _ (omega arith) c.extrinsic-e.ensures x)))

pub store-requires-2 : goal.store-requires-2
store-requires-2 g c = (search rules, any_passed g.row.N 32767 _ _ (omega arith) c.sum.ensures)

pub returns-clause-cell : goal.returns-clause-cell
returns-clause-cell g c =
    let n = g.row.N in lanes_stored n 511 _ _ _ (omega arith) c.store.ensures (lanes_of scaled n 25818 511 _ _ _ (omega arith) c.extrinsic-e.ensures c.scaled.ensures)

pub returns-clause-sum : goal.returns-clause-sum
returns-clause-sum g c =
    let n = g.row.N in
    let x = same-lanes n 638 _ _ c.loaded.ensures (small-vector n 638 _ c.told-x c.requires.input) in
    more-lanes n 26456 32767 _ _ (omega arith)
    (lanes_stored n 26456 _ _ _ (omega arith) c.store-2.ensures (sum-lanes n 25818 638 _ _ _ _ _ (omega arith) c.extrinsic-e.ensures x c.sum.ensures.vector.long c.sum.ensures.lanes))
