use Rattle.model_receiver.proofs.GreatestPaths.{best-is, best_to-is, best_from-is}
use Rattle.model_receiver.proofs.paths.best_is_the_greatest.Goals as goal

pub returns-clause-best : goal.returns-clause-best
returns-clause-best c = best-is

pub returns-clause-to : goal.returns-clause-to
returns-clause-to c = best_to-is

pub returns-clause-from : goal.returns-clause-from
returns-clause-from c = best_from-is
