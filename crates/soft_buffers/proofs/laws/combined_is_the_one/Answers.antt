use Rattle.soft_buffers.proofs.FlatCells.{combined-is, combined-long, combined-taken}
use Rattle.soft_buffers.proofs.laws.combined_is_the_one.Goals as goal

pub returns-clause-is : goal.returns-clause-is
returns-clause-is c = combined-taken

pub returns-clause-long : goal.returns-clause-long
returns-clause-long c = combined-long

pub returns-clause-only : goal.returns-clause-only
returns-clause-only c = combined-is
