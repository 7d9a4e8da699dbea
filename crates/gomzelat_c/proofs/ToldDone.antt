-- What is told of a call that is done, or isn't.
use Rattle.std.proofs.Common.{◌≡◌, ℕ, None, Some, Ok, Err, inl, inr, refl, sym, subst, ap}
use Rattle.std.specs.declared.option.Option.{Option}
use Rattle.std.specs.declared.result.Result.{Result}
use Rattle.std.specs.Result.{result_err}
use Rattle.gomzelat_c.specs.Refusals.{IsDone, IsTold, number_of, told}
use Rattle.gomzelat_c.specs.declared.refusal.Refusal.{Refusal}

told-done : (r : Result Unit Refusal) (o : Option Refusal) → IsDone r o → IsTold (told (result_err r)) o
told-done r (Some refusal) is = ap (λ (x : Result Unit Refusal). told (result_err x)) is
told-done (Ok u) None is = inl refl
told-done (Err e) None is = inr (ap number_of is)

pub told_done : (n : ℕ) (r : Result Unit Refusal) (o : Option Refusal) → n ≡ told (result_err r) → IsDone r o → IsTold n o
told_done n r o tells is = subst (λ (k : ℕ). IsTold k o) (sym tells) (told-done r o is)
