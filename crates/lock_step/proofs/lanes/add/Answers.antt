use Rattle.std.proofs.Common.{arith, rules}
use Rattle.lock_step.proofs.Vectors.{small-vector, same-lanes, sum-lanes, lanes_stored, any_passed, sum-fits}
use Rattle.lock_step.proofs.lanes.add.Goals as goal

pub sum-requires : goal.sum-requires
sum-requires g c =
    let n = g.row.N in
    let a = same-lanes n 638 _ _ c.loaded.ensures (small-vector n 638 _ c.told-a c.requires.first) in
    let b = same-lanes n 511 _ _ c.loaded-2.ensures (small-vector n 511 _ c.told-b c.requires.second) in
    (search rules, (any_passed n 638 _ _ (omega arith) a, (any_passed n 511 _ _ (omega arith) b, sum-fits n 638 511 _ _ _ _ (omega arith) a b)))

pub store-requires : goal.store-requires
store-requires g c =
    let n = g.row.N in
    let a = same-lanes n 638 _ _ c.loaded.ensures (small-vector n 638 _ c.told-a c.requires.first) in
    let b = same-lanes n 511 _ _ c.loaded-2.ensures (small-vector n 511 _ c.told-b c.requires.second) in
    (search rules, any_passed n 1149 _ _ (omega arith) (sum-lanes n 638 511 _ _ _ _ _ (omega arith) a b c.sum.ensures.vector.long c.sum.ensures.lanes))

pub returns : goal.returns
returns g c =
    let n = g.row.N in
    let a = same-lanes n 638 _ _ c.loaded.ensures (small-vector n 638 _ c.told-a c.requires.first) in
    let b = same-lanes n 511 _ _ c.loaded-2.ensures (small-vector n 511 _ c.told-b c.requires.second) in
    lanes_stored n 1149 _ _ _ (omega arith) c.store.ensures (sum-lanes n 638 511 _ _ _ _ _ (omega arith) a b c.sum.ensures.vector.long c.sum.ensures.lanes)
