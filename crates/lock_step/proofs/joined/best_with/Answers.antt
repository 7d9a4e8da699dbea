use Rattle.std.proofs.Common.{◌∙◌, arith, rules}
use Rattle.window_rows.specs.Rows.{column}
use Rattle.lock_step.proofs.Vectors.{small-vector, same-lanes, sum-lanes, larger-lanes, lanes_passed, any_passed, sum-fits, more-lanes}
use Rattle.lock_step.proofs.Joins.{joined-lane}
use Rattle.lock_step.proofs.joined.best_with.Goals as goal

pub sum-requires : goal.sum-requires
sum-requires g c =
    let n = g.row.N in
    let p = same-lanes n 127 _ _ c.loaded.ensures (small-vector n 127 _ c.told-p c.requires.parity) in
    (search rules, (any_passed n 12782 _ _ (omega arith) c.best_along-zero.ensures, (any_passed n 127 _ _ (omega arith) p, sum-fits n 12782 127 _ _ _ _ (omega arith) c.best_along-zero.ensures p)))

pub larger-requires : goal.larger-requires
larger-requires g c =
    let n = g.row.N in
    let p = same-lanes n 127 _ _ c.loaded.ensures (small-vector n 127 _ c.told-p c.requires.parity) in
    let earned = sum-lanes n 12782 127 _ _ _ _ _ (omega arith) c.best_along-zero.ensures p c.sum.ensures.vector.long c.sum.ensures.lanes in
    (search rules, (any_passed n 12909 _ _ (omega arith) earned, any_passed n 12782 _ _ (omega arith) c.best_along-one.ensures))

pub returns : goal.returns
returns g c =
    let n = g.row.N in
    let p = same-lanes n 127 _ _ c.loaded.ensures (small-vector n 127 _ c.told-p c.requires.parity) in
    let earned = sum-lanes n 12782 127 _ _ _ _ _ (omega arith) c.best_along-zero.ensures p c.sum.ensures.vector.long c.sum.ensures.lanes in
    let best = lanes_passed n 12909 _ _ (omega arith) (larger-lanes n 12909 _ _ _ _ _ (omega arith) earned
    (more-lanes n 12782 12909 _ _ (omega arith) c.best_along-one.ensures) c.larger.ensures.vector.long c.larger.ensures.lanes) in
    record {
      vector = best.vector;
      lanes = λ t lt. best.lanes t lt ∙ joined-lane c.args.input (column t c.args.alpha.now) (column t c.args.beta.now) _;
    }
