-- What is refused, from what a `?` hands on.
use Rattle.std.proofs.Common.{◌≡◌, Some, Ok, Err, ap}
use Rattle.std.specs.declared.result.Result.{Result}
use Rattle.std.specs.Result.{IsErrAnd, result_err}

pub handed_on : {X E : Type 0} (r : Result X E) (e : E) → IsErrAnd r (λ x. x ≡ e) → result_err r ≡ Some e
handed_on (Ok x) e h = absurd h
handed_on (Err x) e h = ap Some h
