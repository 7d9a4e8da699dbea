use Rattle.model_receiver.proofs.Maxima.{greatest_one}
use Rattle.model_receiver.proofs.GreatestPaths.{best-is, best_to-is, best_from-is}
use Rattle.model_receiver.proofs.paths.the_greatest_is_one.Goals as goal

pub returns-clause-best : goal.returns-clause-best
returns-clause-best c = λ w b j x h k. greatest_one _ _ _ _ k (best-is w b j h)

pub returns-clause-to : goal.returns-clause-to
returns-clause-to c = λ w s x k. greatest_one _ _ _ _ k (best_to-is w s)

pub returns-clause-from : goal.returns-clause-from
returns-clause-from c = λ w s x k. greatest_one _ _ _ _ k (best_from-is w s)
