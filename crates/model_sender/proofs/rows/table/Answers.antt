use Rattle.std.proofs.Common.{refl}
use Rattle.model_sender.specs.Interleaver.{sizes}
use Rattle.model_sender.proofs.rows.table.Goals as goal

pub returns-clause-sizes : goal.returns-clause-sizes
unfolding sizes
returns-clause-sizes c = refl
