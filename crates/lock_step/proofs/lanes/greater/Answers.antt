use Rattle.std.proofs.Common.{arith, rules}
use Rattle.lock_step.proofs.Vectors.{lanes_stored, any_passed}
use Rattle.lock_step.proofs.lanes.greater.Goals as goal

pub store-requires : goal.store-requires
store-requires g c = (search rules, any_passed g.row.N 12782 _ _ (omega arith) c.better.ensures)

pub returns : goal.returns
returns g c = lanes_stored g.row.N 12782 _ _ _ (omega arith) c.store.ensures c.better.ensures
