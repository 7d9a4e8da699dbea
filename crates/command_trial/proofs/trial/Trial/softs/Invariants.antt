use Rattle.std.proofs.Common.{◌≡◌, ◌+◌, ◌++◌, length, drop}
use Rattle.block_receive.specs.Receptions.{value_count}
use Rattle.command_trial.specs.Trials.{trial_of, softs, softs_from}
use Rattle.command_trial.proofs.trial.Trial.softs.Given as goal

abbrev pub invariant-loop-number : goal.invariant-loop-number
invariant-loop-number l = let t = trial_of l.self in let left = drop l.number l.self.sends in record {
  values : l.values.items ++ softs_from t l.block l.number left ≡ softs t l.block;
  count : length l.values.items + value_count left ≡ value_count l.self.sends;
}
