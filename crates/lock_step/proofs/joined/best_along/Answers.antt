use Rattle.std.proofs.Common.{◌∙◌, arith, rules}
use Rattle.lock_step.proofs.Vectors.{larger-lanes, lanes_passed, any_passed}
use Rattle.lock_step.proofs.Joins.{branch-rows, along-lane}
use Rattle.lock_step.proofs.joined.best_along.Goals as goal

pub better-requires : goal.better-requires
better-requires g c =
    let rows = branch-rows g.row.N c.args.alpha.now c.args.beta.now c.args.input c.args.parity c.branches.result c.requires.alpha c.requires.beta c.branches.ensures in
    (search rules, (rows 0 (omega arith), rows 1 (omega arith)))

pub better-requires-2 : goal.better-requires-2
better-requires-2 g c =
    let rows = branch-rows g.row.N c.args.alpha.now c.args.beta.now c.args.input c.args.parity c.branches.result c.requires.alpha c.requires.beta c.branches.ensures in
    (search rules, (rows 2 (omega arith), rows 3 (omega arith)))

pub larger-requires : goal.larger-requires
larger-requires g c = let n = g.row.N in (search rules, (any_passed n 12782 _ _ (omega arith) c.better.ensures, any_passed n 12782 _ _ (omega arith) c.better-2.ensures))

pub returns : goal.returns
returns g c =
    let n = g.row.N in
    let best = lanes_passed n 12782 _ _ (omega arith) (larger-lanes n 12782 _ _ _ _ _ (omega arith) c.better.ensures c.better-2.ensures c.larger.ensures.vector.long c.larger.ensures.lanes) in
    record {
      vector = best.vector;
      lanes = λ t lt. best.lanes t lt ∙ along-lane t c.args.alpha.now c.args.beta.now c.args.input c.args.parity c.branches.result c.told-alpha c.told-beta c.branches.ensures;
    }
