use Rattle.std.proofs.Common.{◌∙◌, arith, rules}
use Rattle.lte_bits.specs.Softs.{clamped}
use Rattle.model_receiver.specs.Borders.{at}
use Rattle.lock_step.proofs.Vectors.{own-lanes, lanes_of, lanes_passed, vector-still}
use Rattle.lock_step.proofs.Quarters.{three_quarters, three_quarters-near}
use Rattle.lock_step.proofs.lanes.scaled.Goals as goal

pub near-requires : goal.near-requires
near-requires g c = (search rules, vector-still g.row.N 32767 32767 c.args.a (omega arith) (omega arith) c.requires)

pub three_quarters-requires : goal.three_quarters-requires
three_quarters-requires g c = (search rules, vector-still g.row.N 682 682 c.near.result (omega arith) (omega arith) c.near.ensures.vector)

pub returns : goal.returns
returns g c =
    let n = g.row.N in
    let near = lanes_of (clamped 682) n 32767 682 _ _ _ (omega arith) (own-lanes n 32767 c.args.a c.requires) c.near.ensures in
    let whole = lanes_passed n 511 _ _ (omega arith) (lanes_of three_quarters n 682 511 _ _ _ (omega arith) near c.three_quarters.ensures) in
    record { vector = whole.vector; lanes = λ t lt. whole.lanes t lt ∙ three_quarters-near (at c.args.a t) }
