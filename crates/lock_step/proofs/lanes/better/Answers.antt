use Rattle.std.proofs.Common.{arith, rules}
use Rattle.lock_step.proofs.Vectors.{same-lanes, sum-lanes, larger-lanes, lanes_passed, any_passed, sum-fits}
use Rattle.lock_step.proofs.lanes.better.Goals as goal

pub sum-requires : goal.sum-requires
sum-requires g c =
    let n = g.row.N in
    let a = same-lanes n 6391 _ _ c.loaded.ensures c.requires.first.0 in
    let x = same-lanes n 6391 _ _ c.loaded-2.ensures c.requires.first.1 in
    (search rules, (any_passed n 6391 _ _ (omega arith) a, (any_passed n 6391 _ _ (omega arith) x, sum-fits n 6391 6391 _ _ _ _ (omega arith) a x)))

pub sum-requires-2 : goal.sum-requires-2
sum-requires-2 g c =
    let n = g.row.N in
    let b = same-lanes n 6391 _ _ c.loaded-3.ensures c.requires.second.0 in
    let y = same-lanes n 6391 _ _ c.loaded-4.ensures c.requires.second.1 in
    (search rules, (any_passed n 6391 _ _ (omega arith) b, (any_passed n 6391 _ _ (omega arith) y, sum-fits n 6391 6391 _ _ _ _ (omega arith) b y)))

pub larger-requires : goal.larger-requires
larger-requires g c =
    let n = g.row.N in
    let a = same-lanes n 6391 _ _ c.loaded.ensures c.requires.first.0 in
    let x = same-lanes n 6391 _ _ c.loaded-2.ensures c.requires.first.1 in
    let b = same-lanes n 6391 _ _ c.loaded-3.ensures c.requires.second.0 in
    let y = same-lanes n 6391 _ _ c.loaded-4.ensures c.requires.second.1 in (
      search rules,
      (
        any_passed n 12782 _ _ (omega arith) (sum-lanes n 6391 6391 _ _ _ _ _ (omega arith) a x c.sum.ensures.vector.long c.sum.ensures.lanes),
        any_passed n 12782 _ _ (omega arith) (sum-lanes n 6391 6391 _ _ _ _ _ (omega arith) b y c.sum-2.ensures.vector.long c.sum-2.ensures.lanes),
      ),
    )

pub returns : goal.returns
returns g c =
    let n = g.row.N in
    let a = same-lanes n 6391 _ _ c.loaded.ensures c.requires.first.0 in
    let x = same-lanes n 6391 _ _ c.loaded-2.ensures c.requires.first.1 in
    let b = same-lanes n 6391 _ _ c.loaded-3.ensures c.requires.second.0 in
    let y = same-lanes n 6391 _ _ c.loaded-4.ensures c.requires.second.1 in
    lanes_passed n 12782 _ _ (omega arith)
    (larger-lanes n 12782 _ _ _ _ _ (omega arith)
    (sum-lanes n 6391 6391 _ _ _ _ _ (omega arith) a x c.sum.ensures.vector.long c.sum.ensures.lanes)
    (sum-lanes n 6391 6391 _ _ _ _ _ (omega arith) b y c.sum-2.ensures.vector.long c.sum-2.ensures.lanes)
    c.larger.ensures.vector.long c.larger.ensures.lanes)
