use Rattle.std.proofs.Common.{arith}
use Rattle.cell_shares.proofs.Positions.{position_below}
use Rattle.cell_shares.proofs.share.Share.set.Goals as goal

pub overflow_add-self : goal.overflow_add-self
overflow_add-self g c = let s = c.args.self.now in let below = position_below s c.args.j c.requires in let small = s.split.small in record { fits = omega (arith, below, small) }

pub place-place-requires-clause-position : goal.place-place-requires-clause-position
place-place-requires-clause-position g c = position_below c.args.self.now c.args.j c.requires
